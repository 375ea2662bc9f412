pub mod Codes
pub mod Combined
pub mod Differences
pub mod InBlocks
pub mod IntsOf
pub mod Placed
pub mod ValuesOf
