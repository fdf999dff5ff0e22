-- The page program: its input split, and the bytes that it writes for any input. Read in this order.
pub mod Input
pub mod Respond
pub mod Cases
