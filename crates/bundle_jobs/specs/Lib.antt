pub mod Printed
pub mod Named
pub mod Placing
