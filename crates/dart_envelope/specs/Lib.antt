pub mod ClassBoards
pub mod Conditions
pub mod Verdicts
pub mod Scans
pub mod Hits
