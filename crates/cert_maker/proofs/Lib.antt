pub mod Fitting
pub mod Found
pub mod Making
pub mod Certifying
pub mod MorePages
