pub mod Composing
pub mod Grounds
pub mod Planning
