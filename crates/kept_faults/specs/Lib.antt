pub mod FrontLaws
pub mod Left
pub mod Thinned
pub mod ThinLaws
pub mod Repeats
pub mod ToldOrders
