mod TableTest
pub mod Names
pub mod Rows
mod Words
pub mod Alike
pub mod Grammars
mod Portions
