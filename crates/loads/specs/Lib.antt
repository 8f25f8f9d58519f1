pub mod Effects
pub mod Combinations
pub mod Actions
