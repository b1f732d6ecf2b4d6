-- What a get and a scan read and write on a sound state.
pub mod Places
pub mod Views
pub mod Rests
