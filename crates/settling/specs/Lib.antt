pub mod Settle
pub mod Promise
pub mod inner
