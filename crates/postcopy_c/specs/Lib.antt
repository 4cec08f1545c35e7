pub mod Numbers
pub mod Answers
pub mod Texts
pub mod Showings
pub mod Questions
pub mod Refusals
