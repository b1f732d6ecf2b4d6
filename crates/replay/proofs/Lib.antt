-- Laws of the program.
pub mod Within
