pub mod Bubbling
pub mod Edges
pub mod inner
