pub mod Fits
pub mod Judging
pub mod Passing
pub mod PlainRows
pub mod TextRows
