-- What the tables of the code stand for. Invariants, contracts of what keeps or reads the tables, and proofs name these; nothing that
-- must be believed does.
pub mod Blocks
pub mod Widths
pub mod Numbers
pub mod Slots
pub mod Rounds
pub mod Made
pub mod Kept
pub mod Sites
