pub mod Waiting
pub mod inner
