-- A write in a transaction's place.
pub mod Writes
