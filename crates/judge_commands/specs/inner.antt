-- Definitions that only proofs use.
pub mod Held
pub mod Reported
