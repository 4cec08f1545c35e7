pub mod Presences
