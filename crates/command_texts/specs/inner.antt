-- Definitions that only proofs use.
pub mod Ends
pub mod Takings
