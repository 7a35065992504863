pub mod Ranges
pub mod Numbers
pub mod Given
pub mod Measured
pub mod Whole
pub mod Words
pub mod Mixed
pub mod Parts
pub mod GivenColors
pub mod Colors
pub mod Items
pub mod Typed
mod Sized
