pub mod Turns
pub mod Firsts
pub mod Once
