-- Laws of a freeze.
pub mod Freezing
