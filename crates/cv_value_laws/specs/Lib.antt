pub mod Contexts
pub mod Entries
pub mod Lists
pub mod Values
pub mod Texts
pub mod Functions
pub mod Sizes
pub mod Keeping
