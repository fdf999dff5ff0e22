-- What the proof of `write_and_read` goes by.
pub mod Facts
