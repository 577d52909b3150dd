pub mod CheckNames
pub mod Promised
pub mod Entry
pub mod PartsInTurn
pub mod ClosingAnswer
pub mod EarlierOrder
