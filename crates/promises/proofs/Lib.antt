pub mod Begun
pub mod Carried
pub mod Promises
pub mod Told
