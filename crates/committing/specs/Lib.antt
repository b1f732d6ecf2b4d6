-- What a commit speaks of.
pub mod Held
pub mod Regions
pub mod Storing
