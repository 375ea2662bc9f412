pub mod Bits
pub mod Kept
pub mod Lengths
pub mod Pieces
