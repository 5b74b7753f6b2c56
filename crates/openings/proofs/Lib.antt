pub mod Downward
pub mod Facts
pub mod Shaping
pub mod Unfolding
pub mod Guarding
pub mod Opened
pub mod Indexed
