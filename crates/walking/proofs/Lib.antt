pub mod Lines
pub mod Firsts
pub mod Printed
