pub mod Steps
pub mod Migrations
pub mod Written
