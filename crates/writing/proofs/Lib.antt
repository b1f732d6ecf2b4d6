-- Laws of put and delete.
pub mod Checks
pub mod Putting
pub mod Placing
pub mod Telling
