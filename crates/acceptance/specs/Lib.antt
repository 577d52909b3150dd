pub mod Check
pub mod Promise
pub mod inner
