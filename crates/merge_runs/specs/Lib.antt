pub mod BadRuns
pub mod Taken
pub mod Replays
pub mod inner
