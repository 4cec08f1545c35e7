-- Definitions that only proofs use.
pub mod Finding
pub mod Heads
pub mod Reaches
pub mod Noting
pub mod Turns
pub mod Openings
pub mod Described
pub mod Moments
