-- What only the contracts of inner functions cite: no promise of an entry point leans on it.
pub mod Judgement
pub mod Lifted
pub mod Landed
pub mod Reach
pub mod Walks
