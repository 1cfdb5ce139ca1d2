-- How far the code has come within a step. Only invariants, private contracts and proofs name these; nothing that must be believed does.
pub mod Asked
pub mod Frames
