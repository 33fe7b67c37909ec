mod RisingLemmas
mod NumberLemmas
mod DistinctLemmas
mod PlaceLemmas
