pub mod RangeLaws
pub mod SharedLaws
