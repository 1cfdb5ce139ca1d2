pub mod Kept
pub mod Cleaned
pub mod Collected
pub mod Counts
pub mod Graph
pub mod Marked
pub mod Remains
pub mod Left
