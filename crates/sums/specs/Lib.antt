pub mod Numbers
pub mod Sums
pub mod SumsLaws
pub mod Scale
