pub mod Reach
pub mod Invariants
