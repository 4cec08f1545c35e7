pub mod Verdicts
pub mod Promises
pub mod ShapeFaults
pub mod inner
