pub mod Runs
pub mod Grammar
pub mod inner
pub mod Order
