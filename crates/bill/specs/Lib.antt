pub mod Refusals
pub mod Text
pub mod Bill
pub mod Steps
pub mod Whole
