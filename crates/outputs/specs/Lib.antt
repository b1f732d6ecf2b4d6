-- How long the output of `replay` can be.
pub mod Output
