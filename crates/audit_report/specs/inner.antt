-- Definitions that only proofs use.
pub mod Cuts
pub mod Full
pub mod Parts
