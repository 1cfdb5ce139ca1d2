pub mod First
pub mod Functions
pub mod Instructions
pub mod Objects
pub mod Statements
