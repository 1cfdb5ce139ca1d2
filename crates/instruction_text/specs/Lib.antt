pub mod Names
pub mod Operands
pub mod Texts
pub mod Assembly
pub mod Reading
