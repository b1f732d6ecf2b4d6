pub mod Lying
pub mod Histories
pub mod Seats
pub mod Together
