pub mod Words
pub mod SettleWords
pub mod LiveWords
