-- Laws of the calls.
pub mod Unsound
