-- Definitions that only proofs use.
pub mod Demands
pub mod Moving
pub mod Replaying
pub mod Targets
pub mod Unmoved
