pub mod Answer
pub mod Divisors
pub mod Figures
pub mod Literals
pub mod Reading
pub mod Grammar
pub mod Unique
pub mod Judged
