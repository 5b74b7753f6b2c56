pub mod Foretelling
pub mod Filling
