pub mod FromFn
pub mod PlaceLemmas
pub mod Steps
pub mod Loops
pub mod One
