-- The opening settings, where they put the parts of a state, and the parts of a sound state.
pub mod Opening
pub mod Shapes
pub mod Parts
