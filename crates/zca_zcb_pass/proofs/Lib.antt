pub mod FormEffects
pub mod ReachLaws
pub mod HalfNormals
pub mod ShortDistances
