-- Sleepy vertices: the list that names them, the graph of a call, and where the list stands in a program's input.
-- Read in this order.
pub mod Sleepers
pub mod Forwarding
pub mod Behind
