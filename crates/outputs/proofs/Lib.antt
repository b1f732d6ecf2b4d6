-- Laws of short keys and values, of the lines of `replay`'s input and output, and the theorem.
pub mod Short
pub mod Kept
pub mod Lines
pub mod Theorem
