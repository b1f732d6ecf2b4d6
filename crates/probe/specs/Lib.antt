-- What is asked, and what is told: the comparison's numbers as the read path's values.
pub mod Asked
pub mod Told
