pub mod Parts
pub mod PartsLaws
pub mod Lends
pub mod SeatAt
pub mod Seats
pub mod SeatsLaws
