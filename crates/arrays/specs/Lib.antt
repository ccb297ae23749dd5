pub mod Choice
pub mod Tabulate
pub mod TabulateLaws
pub mod Overwritten
pub mod Lowest
pub mod FromFn
