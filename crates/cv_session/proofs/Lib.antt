pub mod Refusals
pub mod Among
pub mod Making
pub mod Opened
pub mod Standing
pub mod Told
pub mod Entries
