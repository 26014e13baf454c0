pub mod View
pub mod Broken
