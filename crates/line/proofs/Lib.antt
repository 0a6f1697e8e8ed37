pub mod Cuts
pub mod Digits
pub mod Gathering
pub mod Worked
