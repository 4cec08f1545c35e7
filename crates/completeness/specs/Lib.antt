pub mod Complete
pub mod Left
pub mod Uses
pub mod inner
