pub mod Emptying
pub mod Closing
