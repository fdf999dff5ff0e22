-- Bags on node lists: what the contracts of the crate `bag` cite.
pub mod Nodes
pub mod Promises
pub mod Table
pub mod Steps
