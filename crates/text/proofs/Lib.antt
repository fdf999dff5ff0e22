-- What the proofs of printing go by, here and in the crates above.
pub mod DecimalFacts
pub mod PrintFacts
pub mod TextFacts
pub mod OutputFacts
