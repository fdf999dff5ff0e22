-- What the inner steps of writing take for granted. What a call answers and leaves is `outcome_of_write` of crate
-- `graph`, beside the encoding and the reader's definitions.
pub mod Steps
