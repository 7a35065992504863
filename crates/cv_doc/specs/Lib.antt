pub mod Json
pub mod Refusals
pub mod Members
pub mod PropertyNames
pub mod Commands
pub mod Reading
pub mod Kept
pub mod Walks
