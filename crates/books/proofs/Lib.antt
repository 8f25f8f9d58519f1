pub mod Products
pub mod Reflect
pub mod Rows
pub mod Numbered
pub mod EverySpacing
