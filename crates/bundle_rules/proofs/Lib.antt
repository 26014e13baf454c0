pub mod Numbers
pub mod Rows
pub mod Placing
pub mod Grounds
pub mod RoundTrip
pub mod Names
pub mod Examples
