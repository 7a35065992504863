pub mod Marks
pub mod State
pub mod Search
pub mod Spreading
pub mod Reversing
