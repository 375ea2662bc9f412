pub mod CanonicalRows
pub mod Columns
pub mod RunPlaces
pub mod Ways
