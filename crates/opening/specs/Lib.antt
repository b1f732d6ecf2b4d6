-- What an opening writes, and what its checks have found before.
pub mod Opening
