pub mod Scanning
pub mod Letters
pub mod Numbers
pub mod Fields
pub mod Finding
pub mod Buffer
pub mod Printing
