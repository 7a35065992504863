pub mod Colors
pub mod Kept
pub mod NoFit
pub mod Numbers
