pub mod Arguments
pub mod Back
pub mod NoMatch
pub mod Written
