-- What `write_and_read` answers and leaves.
pub mod Trip
