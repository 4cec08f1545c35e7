mod Branches
mod Offers
mod Done
mod Machines
pub mod Rooms
