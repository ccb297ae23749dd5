pub mod Stays
pub mod StaysLaws
pub mod Transfer
pub mod TransferLaws
pub mod Touched
pub mod TouchedLaws
pub mod Kept
pub mod BoundsRulesLaws
