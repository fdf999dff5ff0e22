-- Facts of the opening.
pub mod OpenFacts
