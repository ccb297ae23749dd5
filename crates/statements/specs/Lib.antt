pub mod Statements
pub mod Typed
pub mod StatementLaws
pub mod Decode
pub mod DecodeLaws
