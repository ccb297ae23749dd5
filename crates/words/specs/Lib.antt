pub mod Words
pub mod Fields
pub mod Sections
pub mod SectionsLaws
pub mod Typed
pub mod NameLaws
