mod AsBox
pub mod Compressing
pub mod Filing
pub mod Telling
