-- What a transaction needs to enter and to leave.
pub mod Sessions
