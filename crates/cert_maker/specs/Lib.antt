pub mod Orders
pub mod Made
pub mod inner
