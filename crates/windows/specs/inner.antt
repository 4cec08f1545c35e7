-- Definitions that only proofs use.
pub mod Guided
pub mod Marks
pub mod Met
pub mod Parts
pub mod Settled
pub mod Plain
