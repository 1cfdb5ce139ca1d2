-- What the tables of the code stand for. Invariants, contracts of what keeps or reads the tables, and proofs name these; nothing that
-- must be believed does.
pub mod Kept
pub mod Pool
