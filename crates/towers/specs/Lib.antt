pub mod Towers
pub mod Linked
pub mod Moved
pub mod Walks
