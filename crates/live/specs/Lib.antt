pub mod Kept
pub mod Truths
pub mod State
pub mod Calls
pub mod Promise
pub mod inner
