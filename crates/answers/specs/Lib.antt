-- The bytes that are read.
pub mod Packed
