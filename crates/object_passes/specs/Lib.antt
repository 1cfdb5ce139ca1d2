pub mod Sizes
pub mod Rooms
pub mod Written
