-- What only the contracts of inner functions cite: no promise of an entry point leans on it.
pub mod Sizes
pub mod Words
pub mod Known
pub mod Read
pub mod Sound
