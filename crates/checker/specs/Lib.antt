pub mod Walk
pub mod PlaceLaws
pub mod WalkLaws
pub mod VerdictLaws
pub mod Checks
pub mod MarkLaws
