-- The program: its input split, its output lines, and the bytes that it writes for any input. Read in this order.
pub mod Input
pub mod Lines
pub mod Respond
pub mod Cases
