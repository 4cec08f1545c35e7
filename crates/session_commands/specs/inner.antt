-- Definitions that only proofs use.
pub mod Answered
pub mod Seen
pub mod Compressing
pub mod Finding
