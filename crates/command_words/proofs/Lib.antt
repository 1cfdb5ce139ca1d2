-- Lemmas.
pub mod NumberLaws
pub mod NameLaws
pub mod ReadLaws
pub mod Given
pub mod PlainOptions
pub mod PlainWords
pub mod PlainLeaf
pub mod PlainTop
pub mod PlainLaws
pub mod Examples
