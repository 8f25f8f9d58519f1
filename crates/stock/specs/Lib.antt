pub mod Kinds
pub mod Stock
