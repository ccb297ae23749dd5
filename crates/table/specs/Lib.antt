pub mod Variables
pub mod Typed
pub mod VariableLaws
pub mod Form
pub mod Searches
pub mod FormLaws
