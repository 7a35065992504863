pub mod Extents
pub mod Marked
pub mod Subtrees
pub mod Walks
