pub mod Equations
pub mod Parts
pub mod Meaning
pub mod RefusalMeaning
pub mod inner
