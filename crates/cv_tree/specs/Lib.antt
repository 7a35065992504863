pub mod Again
pub mod Contents
pub mod Names
pub mod Single
pub mod Styles
pub mod Tree
pub mod Walking
