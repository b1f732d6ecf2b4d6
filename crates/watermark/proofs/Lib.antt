-- The laws of the reader table. Each file has one part.
pub mod OnePass
pub mod Splits
pub mod Writes
pub mod Plans
pub mod Fronts
pub mod Answers
pub mod Same
