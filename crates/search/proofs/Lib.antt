-- Facts of the search.
pub mod PlayFacts
pub mod JudgeFacts
pub mod CallFacts
pub mod KeptFacts
