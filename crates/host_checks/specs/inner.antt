-- Definitions that only proofs use.
pub mod Limits
pub mod Told
