pub mod Records
pub mod Tallies
pub mod Checks
pub mod Writing
pub mod Seeking
pub mod Stepping
