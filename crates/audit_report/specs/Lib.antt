pub mod Dependence
pub mod Reports
pub mod inner
pub mod ToldLines
pub mod ReportText
pub mod FaultyPagesText
pub mod RefusalText
pub mod MissingText
