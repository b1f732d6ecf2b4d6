pub mod Stamps
pub mod Packing
pub mod Versions
pub mod Places
