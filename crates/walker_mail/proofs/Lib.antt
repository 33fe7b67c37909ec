pub mod CutLemmas
pub mod FinishLemmas
pub mod MoveLemmas
pub mod PackingLemmas
pub mod PlaceLemmas
pub mod PostLemmas
pub mod RiseLemmas
