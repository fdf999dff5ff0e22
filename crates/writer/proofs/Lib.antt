-- What the proofs of the writer's functions go by.
pub mod WellFormedRows
pub mod Encoding
pub mod Storing
