-- Definitions that only proofs use.
pub mod Plain
pub mod Rooms
pub mod Steps
