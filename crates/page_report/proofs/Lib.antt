-- What is claimed of the whole output (OutputFacts, Cases), and what the proofs of single functions go by.
pub mod OutputFacts
pub mod Cases
pub mod InputFacts
pub mod RespondFacts
