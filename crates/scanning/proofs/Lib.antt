pub mod Places
pub mod Walks
pub mod Stored
pub mod Scanning
pub mod Removing
