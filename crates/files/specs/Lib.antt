pub mod Reading
pub mod WordLaws
pub mod Files
pub mod FileLaws
