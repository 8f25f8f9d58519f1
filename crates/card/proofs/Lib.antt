pub mod Rows
pub mod Offsets
pub mod First
pub mod Bits
pub mod WellFormed
pub mod One
