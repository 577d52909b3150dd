-- What laws, inner contracts and examples cite: no promise of an entry point leans on it.
pub mod Ranges
pub mod Biased
