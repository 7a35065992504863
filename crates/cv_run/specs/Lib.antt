pub mod Asked
pub mod Fates
pub mod Outcome
pub mod Reports
pub mod StatusLines
pub mod Telling
