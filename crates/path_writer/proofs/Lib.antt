pub mod GainLemmas
pub mod WaitingLemmas
pub mod TextLemmas
pub mod DigitLemmas
