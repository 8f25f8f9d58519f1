pub mod Ranges
pub mod Grades
pub mod Marks
pub mod Order
pub mod Compared
pub mod Steel
