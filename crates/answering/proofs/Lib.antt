-- The laws of this crate, by topic.
-- Assumes nothing.
pub mod OwnPairs
pub mod Viewing
pub mod Placing
pub mod Resting
pub mod Seating
pub mod Ending
pub mod Getting
pub mod Scanning
