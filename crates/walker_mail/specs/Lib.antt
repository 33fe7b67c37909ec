pub mod Carriers
pub mod Packing
pub mod Posts
