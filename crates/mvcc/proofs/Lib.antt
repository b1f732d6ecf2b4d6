pub mod Commits
pub mod Reading
pub mod Checking
pub mod Opposing
pub mod Pruning
pub mod Entering
pub mod Checked
