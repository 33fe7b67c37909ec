pub mod Rings
pub mod Answers
pub mod Seats
pub mod Posts
pub mod Lines
pub mod Opening
