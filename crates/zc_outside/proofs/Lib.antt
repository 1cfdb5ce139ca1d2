pub mod Kept
pub mod Shelf
pub mod Desk
pub mod Course
pub mod Wanted
pub mod MemFiles
pub mod Transfers
