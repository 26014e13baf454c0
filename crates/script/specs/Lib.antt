pub mod Saying
pub mod Opening
