pub mod Ends
pub mod EndsLaws
pub mod Entry
pub mod Entered
pub mod EntryLaws
pub mod SmallLaws
