-- Demand 3 of what a host hears, proved.
pub mod Hearing
