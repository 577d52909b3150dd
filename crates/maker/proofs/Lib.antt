pub mod Promised
pub mod SamePlace
pub mod InMaking
pub mod Turns
pub mod Guessed
