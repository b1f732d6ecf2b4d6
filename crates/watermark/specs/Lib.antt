-- The reader table as lent slices hold it, and the parts of a call.
pub mod Table
pub mod Pass
