pub mod Telling
pub mod Comparing
pub mod Owing
pub mod Fitting
pub mod RowLimits
