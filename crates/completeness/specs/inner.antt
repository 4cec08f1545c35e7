-- Definitions that only proofs use.
pub mod Least
pub mod Walks
