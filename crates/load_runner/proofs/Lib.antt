pub mod ExitLaws
pub mod Causes
pub mod SummaryLaws
