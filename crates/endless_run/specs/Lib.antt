pub mod Packing
pub mod Promise
pub mod LivePromise
pub mod inner
