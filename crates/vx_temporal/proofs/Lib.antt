pub mod Joins
pub mod PartColumns
pub mod SmallParts
pub mod SplitJoins
pub mod Storages
pub mod WrittenParts
