pub mod Ledgers
pub mod Left
pub mod Records
pub mod Walking
