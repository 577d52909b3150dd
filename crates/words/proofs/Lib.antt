pub mod SetBits
pub mod WordBytes
pub mod Marking
