-- Definitions that only proofs use.
pub mod Meeting
pub mod Passing
pub mod Refusing
pub mod Fitting
pub mod Kept
pub mod Needs
pub mod Made
