-- Laws of packed own writes.
pub mod Fields
pub mod Pairs
pub mod Checking
pub mod Finding
pub mod Splitting
pub mod Putting
pub mod Answering
