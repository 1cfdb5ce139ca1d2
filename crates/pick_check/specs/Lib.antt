pub mod Saved
pub mod Best
pub mod Bound
pub mod Certified
pub mod Text
pub mod Fault
