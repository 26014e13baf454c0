pub mod Clocks
pub mod Applied
pub mod Turning
pub mod Actor
pub mod Stepping
pub mod Told
pub mod Public
