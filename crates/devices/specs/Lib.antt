pub mod Lines
pub mod Environment
pub mod Text
pub mod Fault
pub mod Invariants
