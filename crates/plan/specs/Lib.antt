pub mod Layout
pub mod Bytes
pub mod Positions
pub mod Run
pub mod Refusals
pub mod inner
