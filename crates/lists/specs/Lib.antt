-- Definitions on lists of numbers that several crates' specifications cite.
pub mod Lists
