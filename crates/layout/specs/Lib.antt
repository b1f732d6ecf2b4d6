-- The lent state: how values lie in bytes, where each part begins, the layout of a store, and calls on it one after the other.
pub mod Codec
pub mod Offsets
pub mod Layout
pub mod Runs
