pub mod Bits
pub mod Booleans
pub mod Lists
