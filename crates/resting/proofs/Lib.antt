pub mod Rested
pub mod Allowing
