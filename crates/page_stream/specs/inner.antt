pub mod Fronts
pub mod Passing
