pub mod Passes
pub mod Clauses
pub mod Shapes
pub mod Rounds
