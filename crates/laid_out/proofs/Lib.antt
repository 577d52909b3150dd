pub mod CanBeLaid
pub mod LaidRuns
pub mod LaidPlans
pub mod Words
pub mod LastCycle
pub mod Fronts
pub mod LaidNumbers
pub mod LaidBytes
