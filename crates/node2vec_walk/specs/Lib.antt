pub mod Destinations
pub mod Nearness
