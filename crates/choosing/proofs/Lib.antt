pub mod Chosen
pub mod Looking
