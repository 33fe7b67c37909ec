pub mod BoardLaws
mod AreaLemmas
mod ScanLemmas
pub mod HitLaws
