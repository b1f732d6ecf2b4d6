-- The own writes of a transaction, packed in bytes.
pub mod Overlay
pub mod Entries
