pub mod Items
pub mod Matching
pub mod Text
pub mod Alike
pub mod Kept
pub mod Parts
