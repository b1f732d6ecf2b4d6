pub mod Bytes
pub mod Orders
pub mod Options
