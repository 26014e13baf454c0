pub mod Quiet
pub mod Polls
pub mod Allowing
pub mod Released
pub mod Decided
pub mod Every
