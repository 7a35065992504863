pub mod Ends
pub mod Going
pub mod Inside
pub mod Marking
pub mod Near
