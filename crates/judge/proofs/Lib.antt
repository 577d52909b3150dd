pub mod Promised
pub mod Entry
