pub mod FactorLaws
pub mod OneClassLaws
pub mod FlatBoardLaws
