pub mod Timely
pub mod Seeing
