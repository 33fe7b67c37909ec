pub mod Replies
pub mod PartWalks
pub mod Answered
pub mod ReplyFaults
pub mod Lines
