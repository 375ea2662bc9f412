pub mod Bits
pub mod FixedWidth
pub mod Format
pub mod Laws
pub mod Lists
pub mod Message
pub mod Reads
pub mod Varint
