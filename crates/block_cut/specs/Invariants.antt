-- What the tables of the code stand for. Invariants, contracts of what keeps or reads the tables, and proofs name these; nothing that
-- must be believed does.
pub mod CodeSection
pub mod CodeTables
pub mod CodeTargets
pub mod Cut
pub mod CutSection
pub mod Fields
pub mod HalfwordTables
pub mod Home
pub mod Led
pub mod RelocTargets
pub mod Relocated
pub mod SectionItems
