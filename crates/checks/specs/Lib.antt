pub mod Checked
pub mod CheckLaws
