pub mod Chosen
pub mod Narrowed
