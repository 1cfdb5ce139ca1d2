pub mod Read
pub mod Matches
pub mod Groups
pub mod Invariants
