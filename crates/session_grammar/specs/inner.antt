-- Definitions that only proofs use.
pub mod Forms
pub mod Held
pub mod InitPages
pub mod Limits
pub mod RecordPlain
