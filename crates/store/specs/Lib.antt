-- The paper's calls from what a host hands over.
pub mod Asked
