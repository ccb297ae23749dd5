pub mod Bare
pub mod NumberLaws
pub mod AdvanceLaws
pub mod ReadyLaws
pub mod CopiedLaws
pub mod KeptLaws
