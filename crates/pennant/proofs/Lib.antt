-- The laws of pennants and bags. Laws.antt is what crates above use; the others are what it is made of.
pub mod Weights
pub mod Shapes
pub mod Sizes
pub mod Maps
pub mod Cases
pub mod Laws
