pub mod Letters
pub mod Onward
pub mod Within
pub mod FirstLine
