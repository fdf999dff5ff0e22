-- Facts about specs/Lists.antt that several crates' proofs cite.
pub mod Any
pub mod Chains
pub mod Chunks
pub mod Members
pub mod Or
pub mod Overlay
pub mod Parts
pub mod Replaced
pub mod Rows
pub mod Tests
pub mod Sums
