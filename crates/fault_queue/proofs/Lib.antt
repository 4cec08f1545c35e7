pub mod Maps
pub mod Others
pub mod Queues
pub mod Waiters
pub mod Same
