-- Definitions that only proofs use.
pub mod Entries
pub mod Ready
pub mod Taking
