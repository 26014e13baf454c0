pub mod Rings
pub mod Joining
pub mod Batching
pub mod First
pub mod Consuming
pub mod Summing
pub mod Setting
pub mod Breaking
