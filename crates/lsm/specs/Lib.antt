-- What the read path means. Contracts of `scan` and `get` speak of Views, Answers and Edges; the other files say what the functions between do.
pub mod Lying
pub mod Edges
pub mod Pairs
pub mod Answers
pub mod Seeking
pub mod Shown
pub mod Overlay
pub mod Views
pub mod Newest
