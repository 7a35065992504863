pub mod Values
pub mod References
pub mod Flat
pub mod Places
pub mod Names
pub mod Checked
pub mod Segments
pub mod Mentions
