pub mod Numbers
pub mod Bundled
pub mod Reading
