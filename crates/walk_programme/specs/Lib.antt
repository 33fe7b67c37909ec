pub mod Faults
pub mod Fractions
pub mod Judges
pub mod Programme
pub mod Table
