-- What the C interface's proofs go by: the answers of reader and search are small, and what is promised of an answer holds of the list it stands in.
pub mod Small
pub mod Told
