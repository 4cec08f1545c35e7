pub mod Sentences
pub mod Lacks
pub mod Writing
