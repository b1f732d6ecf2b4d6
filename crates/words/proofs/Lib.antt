-- Laws of the words of a script.
pub mod Letters
pub mod Handles
pub mod Pieces
pub mod Ends
pub mod Places
pub mod Calls
pub mod ByLine
pub mod Same
