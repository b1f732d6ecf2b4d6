-- What the functions over the runs of a state answer.
pub mod Told
pub mod Spread
pub mod Opening
