pub mod Puts
pub mod Bills
