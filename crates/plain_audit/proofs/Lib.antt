pub mod FlatPages
pub mod SpotSteps
pub mod DemandTests
