pub mod AskerLemmas
mod ChoiceLemmas
mod ChoiceTicks
mod DartLemmas
mod DecidedLemmas
mod FairLemmas
pub mod FarChoice
pub mod FarLemmas
mod FarTicks
pub mod FromLemmas
mod HearLemmas
pub mod LocalLemmas
mod StandingLemmas
pub mod StepLaws
mod StepLemmas
pub mod TellLemmas
pub mod ThrownLemmas
mod TickLemmas
mod ToldLemmas
pub mod TurnLemmas
mod TurnTicks
