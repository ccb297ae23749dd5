pub mod SetFrame
