pub mod Report
pub mod Lowest
pub mod First
pub mod Outcome
