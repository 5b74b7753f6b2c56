pub mod Opening
pub mod Reading
pub mod Taking
