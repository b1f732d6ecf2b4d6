-- Laws of a script on the bytes of a state: of each line's call, of its answer, of the lines one after the other, and of the whole run.
pub mod Lendable
pub mod OnStore
pub mod Opening
pub mod Showing
pub mod Answers
pub mod Dispatch
pub mod Running
pub mod Whole
