pub mod Ahead
pub mod Rows
