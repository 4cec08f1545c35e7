pub mod Moments
pub mod Scenarios
pub mod ScriptFaults
pub mod Events
pub mod Scripts
pub mod inner
