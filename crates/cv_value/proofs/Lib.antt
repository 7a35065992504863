pub mod NoMatch
pub mod Alike
pub mod Lists
