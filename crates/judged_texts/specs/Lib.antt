pub mod Checked
pub mod Audited
pub mod AuditedText
pub mod Replayed
pub mod inner
pub mod Ordered
