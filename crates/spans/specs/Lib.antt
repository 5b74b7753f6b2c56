pub mod Spans
pub mod Rounds
