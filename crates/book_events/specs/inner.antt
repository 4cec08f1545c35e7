-- Definitions that only proofs use.
pub mod Offers
pub mod Work
