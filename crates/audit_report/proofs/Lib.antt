pub mod Points
pub mod Cutting
pub mod Depending
pub mod Blocks
pub mod Splitting
pub mod Showing
