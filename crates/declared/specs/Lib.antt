pub mod Shown
pub mod ShownLaws
pub mod UntouchedLaws
pub mod Force
pub mod ForceLaws
pub mod Callee
