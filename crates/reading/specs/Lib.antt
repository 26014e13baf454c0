pub mod Steps
pub mod Starts
