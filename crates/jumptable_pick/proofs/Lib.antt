pub mod SortLaws
pub mod RankLaws
pub mod TableLaws
pub mod PickLaws
pub mod PlaceLaws
