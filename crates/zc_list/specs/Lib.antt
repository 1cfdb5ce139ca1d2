pub mod Listing
pub mod Spelled
pub mod Fault
pub mod Reader
