pub mod AnyMeaning
pub mod Shipped
