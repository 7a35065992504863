pub mod Joining
pub mod Entries
