-- The history of commits in a lent buffer.
pub mod Histories
