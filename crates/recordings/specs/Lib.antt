pub mod Recordings
pub mod Seen
pub mod Wide
pub mod inner
