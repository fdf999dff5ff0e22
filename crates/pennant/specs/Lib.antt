-- Pennants and bags as trees: what the code of the crate `bag` is measured by.
pub mod Pennant
pub mod Bag
pub mod Held
