pub mod Knotting
pub mod Wording
