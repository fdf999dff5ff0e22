-- Distances of a graph, the event table and its play, the link-by-link run, how many vertices stand at each distance,
-- the whole call's outcome, and what demand 3 claims. Read in this order.
pub mod Paths
pub mod Words
pub mod State
pub mod Table
pub mod Play
pub mod Serial
pub mod Histogram
pub mod Call
pub mod Demand
pub mod Bench
