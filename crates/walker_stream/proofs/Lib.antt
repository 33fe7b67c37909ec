pub mod FoldLemmas
pub mod FairLemmas
mod ReaderLemmas
