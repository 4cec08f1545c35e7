pub mod Records
pub mod Grammar
pub mod Pages
pub mod inner
