pub mod Overlaps
pub mod SeatOverlaps
pub mod OverlapLaws
