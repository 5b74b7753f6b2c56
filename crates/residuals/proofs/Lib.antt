pub mod Gathering
pub mod Marking
pub mod Weighing
pub mod Copying
pub mod Resting
pub mod Leaving
