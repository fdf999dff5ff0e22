-- Laws of the graph of a call, and what the proofs of the steps go by.
pub mod SourceFacts
pub mod ForwardingFacts
pub mod BehindFacts
