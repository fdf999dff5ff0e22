-- Facts about the run that its proof goes by.
pub mod PlayingFacts
pub mod StartFacts
pub mod WorkFacts
pub mod PairFacts
pub mod CloseFacts
