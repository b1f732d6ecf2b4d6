-- The laws of the program's two forms of the table.
pub mod Columns
