pub mod Existing
mod Entries
mod Rules
mod Sheets
mod Documents
