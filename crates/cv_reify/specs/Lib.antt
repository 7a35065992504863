pub mod Arguments
pub mod Calculations
pub mod ComputedStyle
pub mod DeclaredStyle
pub mod Refusal
pub mod Text
