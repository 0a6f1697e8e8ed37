pub mod Match
pub mod Hits
pub mod First
