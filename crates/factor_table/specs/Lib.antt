pub mod Factors
pub mod KnownClasses
