pub mod Rounds
pub mod InTurn
pub mod InTurnLaws
pub mod Standing
pub mod StandingLaws
pub mod SharedLaws
pub mod TurnLaws
pub mod LoopLaws
