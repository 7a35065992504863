pub mod Numbers
pub mod ReadsBack
pub mod Typed
