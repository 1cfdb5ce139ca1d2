pub mod Parts
pub mod Fragments
pub mod Reach
pub mod WellFormed
