pub mod Ranks
pub mod Marks
pub mod NameIndex
pub mod Known
