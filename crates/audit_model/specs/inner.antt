-- Definitions that only proofs use.
pub mod MergingTests
pub mod PageFaultTests
