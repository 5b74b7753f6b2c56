pub mod Searching
pub mod Deciding
pub mod Reaching
pub mod Sizing
pub mod Answering
