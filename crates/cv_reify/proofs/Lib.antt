pub mod Bytewise
pub mod Texts
pub mod Typed
