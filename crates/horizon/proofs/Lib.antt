pub mod Rows
pub mod Telling
pub mod Adding
pub mod Freshly
pub mod Facts
