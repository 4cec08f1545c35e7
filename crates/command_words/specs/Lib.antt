pub mod Table
pub mod Words
pub mod Readings
pub mod Parameters
