pub mod Inserting
pub mod Counting
pub mod Splitting
pub mod Moving
pub mod Weaving
pub mod Absorbing
pub mod Callers
