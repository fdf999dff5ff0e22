-- Text: numbers and labels as ASCII bytes, a program's output, and what a step of printing promises.
-- Read in this order.
pub mod Text
pub mod Output
pub mod Printed
