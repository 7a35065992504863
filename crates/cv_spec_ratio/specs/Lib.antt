pub mod Cancelled
pub mod Code
pub mod Gcd
pub mod Order
pub mod Ratio
