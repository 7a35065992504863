pub mod Registered
pub mod Contexts
pub mod Element
pub mod Computed
pub mod Single
