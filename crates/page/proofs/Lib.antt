-- What is claimed of the pages as a whole (ReadBack: they are read back; Claims: the rest of what the paper says; Cases), and what the proofs of
-- single functions go by.
pub mod ReadBack
pub mod Claims
pub mod Cases
pub mod LineFacts
pub mod PageFacts
pub mod CallFacts
