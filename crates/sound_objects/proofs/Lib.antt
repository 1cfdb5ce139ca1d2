mod BranchLaws
pub mod FaultlessLaws
pub mod IgnoredLaws
mod ListLaws
pub mod ListedLaws
pub mod NameLaws
pub mod NearLaws
pub mod PartsLaws
pub mod FragmentLaws
pub mod RelocLaws
pub mod SizeLaws
pub mod ReachLaws
pub mod UnderLaws
pub mod WellFormedLaws
