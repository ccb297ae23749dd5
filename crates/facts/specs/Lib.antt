pub mod Store
pub mod StoreLaws
pub mod Rows
pub mod PlainLaws
pub mod StoreLoops
pub mod Words
pub mod Grid
