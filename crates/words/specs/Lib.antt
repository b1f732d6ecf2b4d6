-- The words of a script.
pub mod Lines
pub mod Fields
pub mod Commands
