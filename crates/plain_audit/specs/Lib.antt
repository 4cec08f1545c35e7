pub mod Spots
pub mod inner
