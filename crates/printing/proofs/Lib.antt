pub mod Chain
pub mod Takers
pub mod Lines
pub mod Rooms
