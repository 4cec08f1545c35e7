pub mod Nearest
pub mod Logs
pub mod Keeping
pub mod Calls
