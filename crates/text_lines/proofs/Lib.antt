pub mod HexLaws
pub mod NumberLaws
pub mod OptionLaws
pub mod PlainLaws
pub mod SplitLaws
