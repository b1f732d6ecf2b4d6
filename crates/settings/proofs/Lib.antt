-- Laws of the settings, and of the parts of a sound state.
pub mod Shapes
pub mod Reading
pub mod Writing
pub mod SoundParts
pub mod PlaceParts
