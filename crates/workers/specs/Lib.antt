-- The workers of a search: what the engine's values stand for, and what the steps hand to one another.
pub mod Shown
pub mod Steps
