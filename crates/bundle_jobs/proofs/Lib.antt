pub mod Pieces
pub mod LastParts
pub mod Turns
pub mod Standing
pub mod Telling
pub mod Once
