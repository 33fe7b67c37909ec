pub mod Gains
pub mod Named
