pub mod FormLaws
pub mod RangeLaws
pub mod OperandLaws
pub mod EachHalfword
