pub mod Carried
pub mod ToPost
pub mod Moments
pub mod Boxes
pub mod Rounding
pub mod Share
