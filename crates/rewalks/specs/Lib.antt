pub mod Stops
pub mod Walking
pub mod Rewalks
pub mod RewalkLaws
