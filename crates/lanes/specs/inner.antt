-- What only the contracts of inner functions cite: no promise of an entry point leans on it.
pub mod Agreement
pub mod Columns
pub mod Direct
pub mod Lanes
pub mod Positions
pub mod Ranges
pub mod Spacing
pub mod Still
pub mod Stretches
