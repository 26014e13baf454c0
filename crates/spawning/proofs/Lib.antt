pub mod Spawns
