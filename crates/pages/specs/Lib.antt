pub mod Steps
pub mod Tries
