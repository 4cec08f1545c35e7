pub mod Parts
pub mod Logs
pub mod inner
