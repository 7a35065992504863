pub mod Watches
pub mod Texts
pub mod Asking
pub mod Fold
pub mod Opening
pub mod Scenes
