pub mod Run
pub mod Operators
pub mod Week
pub mod Truth
pub mod Views
pub mod Fits
pub mod Parts
pub mod Nesting
