-- Laws of a commit.
pub mod Held
pub mod Histories
pub mod Entering
pub mod Joining
pub mod Closing
pub mod Checks
pub mod Writing
pub mod Replies
