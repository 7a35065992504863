pub mod Plain
pub mod Alike
pub mod Powers
pub mod Signs
