pub mod Flags
pub mod Reset
