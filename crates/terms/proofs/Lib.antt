pub mod Writing
pub mod Viewing
pub mod Ending
pub mod Joining
pub mod Walks
pub mod Levels
pub mod Planning
