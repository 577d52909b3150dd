pub mod Ways
pub mod Parts
