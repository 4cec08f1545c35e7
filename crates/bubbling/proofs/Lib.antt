pub mod Sizes
pub mod Reaches
pub mod Rings
pub mod Jumping
