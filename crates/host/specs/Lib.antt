-- Replies by numbers, for hosts in other languages.
pub mod Numbers
