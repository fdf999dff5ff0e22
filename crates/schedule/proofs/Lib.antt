-- Facts about event bytes: Bytes and Schedules for the crates above, TableFacts and CheckFacts for the proofs of this one.
pub mod Bytes
pub mod TableFacts
pub mod CheckFacts
pub mod Schedules
