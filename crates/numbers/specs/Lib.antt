-- Document 01's numbers and sizes, and what an order of refusals means.
pub mod Numbers
pub mod Refusals
pub mod Told
