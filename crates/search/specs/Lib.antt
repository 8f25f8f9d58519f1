pub mod Lightest
pub mod Search
