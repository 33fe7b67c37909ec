mod CutLemmas
pub mod OwnerLaws
mod OkLemmas
mod PartLemmas
pub mod ReachLaws
mod TablingLemmas
pub mod WeightLaws
