-- A text in an out buffer.
pub mod Shown
pub mod Shows
