-- The adjacency file, the graph that it holds, and what reader, writer (crate `writer`) and view (crate
-- `view`) answer and leave. Read in this order.
pub mod Graph
pub mod File
pub mod Read
pub mod Answers
pub mod Encode
pub mod Write
pub mod Links
pub mod Steps
pub mod BenchFiles
