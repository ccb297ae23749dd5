pub mod Conditions
pub mod NegationLaws
pub mod Typed
pub mod ConditionLaws
