pub mod KeyOrder
mod TableTest
mod Outcomes
mod Tries
mod RowTest
mod InRows
mod Rows
mod Begun
mod Beginning
