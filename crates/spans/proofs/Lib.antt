pub mod Relativity
pub mod Lasting
pub mod Telling
pub mod Settling
