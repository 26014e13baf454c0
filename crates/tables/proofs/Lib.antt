pub mod Filling
pub mod Rows
pub mod Tables
