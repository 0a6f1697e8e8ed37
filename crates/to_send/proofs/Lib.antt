pub mod Enough
pub mod WrittenBack
pub mod StoredBack
