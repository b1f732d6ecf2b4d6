-- What replies tell, and what a call on bytes tells.
pub mod Told
pub mod OnBytes
pub mod Read
