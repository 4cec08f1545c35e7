mod Parts
mod Weaves
pub mod Logs
mod Histories
mod TargetKeeping
mod Targets
mod Told
mod Lists
mod PagerKeeping
mod Listed
mod Sounds
mod Ticking
mod Paging
mod Branches
pub mod Settling
mod Counting
mod GuestKeeping
