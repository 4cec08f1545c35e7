pub mod Built
pub mod Names
pub mod Behinds
pub mod Certain
