-- What only the contracts of inner functions cite: no promise of an entry point leans on it.
pub mod Minutes
pub mod Rules
