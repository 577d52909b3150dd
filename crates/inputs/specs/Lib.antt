pub mod Outcome
pub mod inner
