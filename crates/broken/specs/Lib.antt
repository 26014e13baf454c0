pub mod Weights
pub mod Broken
pub mod KeyInvariants
