-- What the proofs of the view go by.
pub mod InView
