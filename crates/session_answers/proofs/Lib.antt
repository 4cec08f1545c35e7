pub mod Growing
pub mod Standing
pub mod Told
