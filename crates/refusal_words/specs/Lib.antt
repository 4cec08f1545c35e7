-- Why a text is refused, in words.
pub mod Hidden
pub mod Placed
