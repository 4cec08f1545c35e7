pub mod Spelled
pub mod Headline
pub mod Read
pub mod Outcomes
pub mod Ordered
pub mod Holding
