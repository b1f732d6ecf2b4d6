-- Laws of a handle's transaction.
pub mod Finding
pub mod Entering
pub mod Lengths
