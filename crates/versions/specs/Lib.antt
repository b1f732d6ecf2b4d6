-- What a commit does to the active run.
pub mod Absorbing
