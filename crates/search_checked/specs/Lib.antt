-- What the checker and the call for pages answer to a search's result.
pub mod Checked
