-- Laws of a transaction's place.
pub mod Reading
pub mod Holding
pub mod Laying
pub mod Changing
pub mod Members
pub mod Matching
pub mod Judging
pub mod Callers
pub mod Adding
