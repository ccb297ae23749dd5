pub mod Entries
pub mod ListForm
pub mod ListLaws
