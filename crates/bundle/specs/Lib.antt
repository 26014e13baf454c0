pub mod Contents
pub mod Reads
pub mod Writing
pub mod Writes
