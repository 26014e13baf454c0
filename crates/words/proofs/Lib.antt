pub mod Single
pub mod Slots
pub mod Tasks
pub mod Grants
pub mod Lowest
