-- What a layout owes, place by place, so that its image does what the program does. Proofs and contracts of private functions name
-- these; no definition that must be believed does.
pub mod Room
pub mod Groups
pub mod Stretches
pub mod Laid
pub mod Counted
