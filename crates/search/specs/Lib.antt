-- The search under a schedule: the run on the lists' parts, the tests on the input, and what a whole call promises.
pub mod Played
pub mod Answers
pub mod Input
pub mod Promise
