-- Sets of hashes in a lent buffer.
pub mod Sets
