-- Facts about orders of refusals that the proofs of every call cite.
pub mod First
pub mod Numbering
