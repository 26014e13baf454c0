pub mod Turns
pub mod Rules
pub mod Whole
