pub mod Whole
pub mod Holding
pub mod Taking
