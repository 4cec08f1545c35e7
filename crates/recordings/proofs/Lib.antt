pub mod Fitting
pub mod Tells
