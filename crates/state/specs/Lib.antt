-- The rules that the parts of a state keep together.
pub mod Whole
pub mod Lying
