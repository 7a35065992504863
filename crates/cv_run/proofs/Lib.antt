pub mod Ending
pub mod Given
pub mod Keys
pub mod Lines
pub mod Objects
pub mod Reporting
pub mod Taken
