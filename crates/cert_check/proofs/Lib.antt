pub mod Reading
pub mod FirstOfLog
pub mod FirstOfAll
pub mod FaultsUpTo
pub mod RightEntries
pub mod Promised
pub mod OneVerdict
