pub mod Answers
pub mod Replayed
pub mod Completed
pub mod ByTables
pub mod Noted
pub mod inner
pub mod Misfits
