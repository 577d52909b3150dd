pub mod LittleEndian
pub mod TwosComplement
pub mod Pieces
pub mod inner
