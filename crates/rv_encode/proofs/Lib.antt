pub mod EncodedLaws
pub mod Examples
