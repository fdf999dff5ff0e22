-- The result of a search passes the checker and is laid out on pages.
pub mod Theorem
