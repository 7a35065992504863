pub mod Units
pub mod Single
pub mod Fonts
pub mod OfType
pub mod Pieces
pub mod Divisors
pub mod Refused
