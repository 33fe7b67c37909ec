pub mod ListLemmas
pub mod RisingLemmas
pub mod MarkLemmas
pub mod IndexLemmas
pub mod NameLaws
