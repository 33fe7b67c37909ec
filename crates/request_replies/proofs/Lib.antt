pub mod OneWalk
pub mod PartLaws
pub mod ReplyLaws
pub mod SessionLaws
