pub mod Facts
pub mod History
pub mod LeastSums
pub mod Examples
