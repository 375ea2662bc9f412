pub mod Blocks
pub mod Facts
pub mod Produced
pub mod Ratio
pub mod Spread
pub mod Words
