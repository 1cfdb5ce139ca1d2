pub mod SharedRun
pub mod Ascending
