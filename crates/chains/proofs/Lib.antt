pub mod Chains
pub mod Exact
pub mod ExactAfter
pub mod HistoryLaws
pub mod Join
pub mod Operations
pub mod SizeLaws
pub mod Sound
