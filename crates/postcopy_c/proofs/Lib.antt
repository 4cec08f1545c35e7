pub mod Clean
pub mod Zipped
pub mod Joined
pub mod Shown
pub mod Held
