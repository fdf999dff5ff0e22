-- Facts about workers that the proofs of this crate and of the engine go by.
pub mod RowFacts
pub mod MoveFacts
pub mod CountFacts
pub mod CrewFacts
pub mod IdleFacts
pub mod PairFacts
pub mod BagsFacts
pub mod OpenedFacts
pub mod GatherFacts
