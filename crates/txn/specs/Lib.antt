-- A transaction's place in the lent state.
pub mod Place
pub mod Checks
