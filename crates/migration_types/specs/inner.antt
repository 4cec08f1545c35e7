pub mod Bytes
pub mod Stored
pub mod InitPages
pub mod Places
pub mod Room
pub mod Widest
