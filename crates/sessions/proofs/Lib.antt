-- Laws of begin and end.
pub mod Beginning
pub mod Ending
