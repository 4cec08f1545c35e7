-- Definitions that only proofs use.
pub mod Exact
pub mod Ops
pub mod EventKinds
pub mod EventHeld
pub mod Plain
pub mod ScriptPlain
pub mod ScriptHeld
pub mod ScriptDraft
