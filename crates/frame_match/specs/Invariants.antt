-- What the code stores, and how far its search has come. Only invariants, proofs, and contracts of functions that store
-- or read it name these; nothing that must be believed does.
pub mod Runs
pub mod Frames
pub mod Kinds
pub mod Marks
