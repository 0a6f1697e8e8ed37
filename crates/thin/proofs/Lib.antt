pub mod Thin
pub mod Walk
