-- The page for the folder: its layout to the byte, how its columns are read back, and what a call answers and
-- leaves. Read in this order.
pub mod Layout
pub mod Columns
pub mod Page
pub mod Promise
pub mod Steps
pub mod Cases
