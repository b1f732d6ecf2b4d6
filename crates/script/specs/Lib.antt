-- A script on the bytes of a state.
pub mod OnLines
pub mod OnPages
pub mod Inside
