pub mod Folds
pub mod Standing
pub mod Held
