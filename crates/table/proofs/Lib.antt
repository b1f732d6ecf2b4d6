-- Laws of the reader table in its region, and of the places by their first bytes.
pub mod RowLaws
pub mod RowBytes
pub mod RowsRead
pub mod Tags
pub mod Seats
pub mod RowsAnew
pub mod RowSpots
pub mod RowsLie
pub mod PlacesLie
pub mod StateRules
