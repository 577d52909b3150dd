pub mod Make
pub mod Promise
pub mod inner
