pub mod Asking
pub mod Judged
pub mod Unique
