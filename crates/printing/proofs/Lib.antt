-- Laws of texts shown one behind the other, and of decimal digits.
pub mod Showing
pub mod Digits
