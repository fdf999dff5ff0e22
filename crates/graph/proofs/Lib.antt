-- Facts about specs/ that the proofs of this crate and of the crates above cite. First what is claimed of whole calls, then what
-- the proofs of single functions go by.
pub mod Bridge
pub mod WellFormed
pub mod GraphRowsFacts
pub mod RoundTrip
pub mod Cases
pub mod FileLists
pub mod EncodeFacts
pub mod HeaderFacts
pub mod ScanFacts
pub mod WordRuns
pub mod WalkFacts
pub mod AheadFacts
pub mod RankFacts
pub mod RowFacts
pub mod ReadFacts
pub mod EarlyFacts
pub mod UnchainFacts
