pub mod Objects
pub mod Plain
pub mod Styles
pub mod Trimmed
