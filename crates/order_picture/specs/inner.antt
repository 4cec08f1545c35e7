-- Definitions that only proofs use.
pub mod Built
pub mod Along
