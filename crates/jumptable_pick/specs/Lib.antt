pub mod Ranking
pub mod Tables
pub mod Picked
pub mod Slots
