pub mod BitPacking
pub mod Dictionary
pub mod FrameOfReference
pub mod Patches
pub mod Widths
pub mod ZigZag
