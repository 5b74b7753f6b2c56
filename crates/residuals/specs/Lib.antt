pub mod Marks
pub mod Marked
pub mod Weights
pub mod Rests
