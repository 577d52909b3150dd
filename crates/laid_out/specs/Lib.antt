pub mod LaidOut
pub mod inner
