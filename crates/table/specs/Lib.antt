-- The reader table in the lent state, and the transactions' places by their first bytes.
pub mod Rows
pub mod Places
