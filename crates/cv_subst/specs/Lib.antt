pub mod Values
pub mod Limited
pub mod Flat
pub mod Refusal
