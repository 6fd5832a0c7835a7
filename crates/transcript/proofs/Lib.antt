pub mod Rolls
pub mod Steps
