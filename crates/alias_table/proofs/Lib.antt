mod SumLemmas
pub mod FrontLemmas
mod WidthLemmas
mod FillLemmas
mod TableLemmas
mod InverseLemmas
pub mod ShareLemmas
pub mod PieceLaws
