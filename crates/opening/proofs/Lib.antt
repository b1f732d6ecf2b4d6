-- Laws of the opening.
pub mod Emptying
pub mod Freeing
pub mod Writing
pub mod Ending
