pub mod Opening
pub mod Wanted
pub mod Sent
