pub mod Matched
pub mod Quantities
pub mod Calculations
pub mod Numeric
pub mod Alike
pub mod Signs
