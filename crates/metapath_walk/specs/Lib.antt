pub mod TypeClasses
