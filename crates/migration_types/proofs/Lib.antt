pub mod Sectioned
pub mod Fitting
