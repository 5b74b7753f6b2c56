pub mod Clauses
pub mod Performing
pub mod Terms
pub mod Opening
pub mod Residuals
pub mod Completing
pub mod Ends
pub mod Laws
