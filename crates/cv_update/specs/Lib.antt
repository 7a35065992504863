pub mod Changes
pub mod Fresh
pub mod Names
pub mod Renewed
pub mod Walking
