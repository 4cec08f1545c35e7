pub mod States
pub mod Woven
pub mod Sound
pub mod Steps
pub mod Records
