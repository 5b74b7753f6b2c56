pub mod Approving
pub mod Computed
pub mod Unique
pub mod Worked
