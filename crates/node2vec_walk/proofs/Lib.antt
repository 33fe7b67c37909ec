pub mod NodeLaws
pub mod RunLaws
pub mod DestinationLaws
