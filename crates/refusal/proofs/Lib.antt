pub mod Lowest
pub mod First
pub mod Search
pub mod RefusesOnly
pub mod Reported
