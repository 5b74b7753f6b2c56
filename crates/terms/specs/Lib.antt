pub mod Tables
pub mod Plans
pub mod Results
