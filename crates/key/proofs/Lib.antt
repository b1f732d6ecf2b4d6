pub mod Records
pub mod Placing
pub mod Stamping
pub mod Packing
pub mod Packed
