-- The transaction of a handle.
pub mod Seats
