pub mod Writing
pub mod Statuses
