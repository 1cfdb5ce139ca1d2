pub mod Regions
pub mod Cells
pub mod Written
pub mod Turns
pub mod Shares
pub mod Linked
