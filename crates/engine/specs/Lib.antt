-- The engine of a search: what its run takes for granted and promises.
pub mod Runs
