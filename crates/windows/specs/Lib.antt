pub mod Pages
pub mod Origins
pub mod Cuts
pub mod inner
pub mod Tables
