pub mod Composed
pub mod Checked
pub mod Stepping
pub mod Accepted
pub mod Carried
