pub mod WalkFollowed
pub mod Reached
pub mod Positions
pub mod Places
pub mod StoreLaws
pub mod KeptLaws
pub mod FaultPlaces
pub mod PositionLaws
