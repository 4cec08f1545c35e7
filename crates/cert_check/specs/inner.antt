-- Definitions that only proofs use.
pub mod FirstOfLog
pub mod Passes
pub mod FaultsUpTo
