-- Definitions that only proofs use.
pub mod EntryTests
pub mod FirstOfLog
pub mod Frontier
pub mod OfFindings
pub mod Parts
pub mod EntryAt
