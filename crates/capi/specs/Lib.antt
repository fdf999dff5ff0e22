-- How a call's answer is read off the list that a C caller lends for it, and how large its numbers are.
pub mod Answers
