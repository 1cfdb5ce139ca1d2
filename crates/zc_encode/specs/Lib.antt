pub mod Encoding
pub mod Halves
