-- Definitions that only proofs use.
pub mod Jumps
