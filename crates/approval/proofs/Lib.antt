pub mod Joining
pub mod Sizes
