pub mod Runs
pub mod Load
pub mod Cause
pub mod Summary
