-- Facts about bags on node lists that the proofs of the crate's functions go by. Family, FormedFacts, Free and HeldFacts are what crates above use.
pub mod Only
pub mod Kept
pub mod Few
pub mod Pairs
pub mod Backbone
pub mod AddFacts
pub mod PlaceFacts
pub mod UnionFacts
pub mod SpillFacts
pub mod ShiftFacts
pub mod FilledFacts
pub mod FormedFacts
pub mod Free
pub mod HeldFacts
pub mod Family
pub mod Outcomes
