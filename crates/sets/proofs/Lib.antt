pub mod Hashes
pub mod Risings
pub mod Searching
pub mod Inserting
pub mod Sharing
