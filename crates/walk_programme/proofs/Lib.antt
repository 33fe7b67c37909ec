mod NumberLemmas
mod DivisorLemmas
mod FaultLemmas
mod KeyLemmas
mod TypeLemmas
