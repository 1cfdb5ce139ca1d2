-- What the tables of the code stand for. Invariants, contracts of what keeps or reads the tables, and proofs name these; nothing that
-- must be believed does.
pub mod Gathered
pub mod Keys
pub mod Loaded
pub mod Meanings
pub mod Numbered
pub mod Rows
pub mod Tables
