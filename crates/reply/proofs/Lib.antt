-- Laws of what a call tells.
pub mod Ends
pub mod Same
pub mod Reading
pub mod Numbers
