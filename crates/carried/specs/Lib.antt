-- Demand 3 of the bytes that a host lends.
pub mod OnBytes
