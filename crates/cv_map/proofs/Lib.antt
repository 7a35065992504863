pub mod Spelt
pub mod Found
