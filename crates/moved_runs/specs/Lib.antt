pub mod Moved
pub mod Named
pub mod Leads
pub mod Moves
pub mod Passes
