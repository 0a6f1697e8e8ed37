pub mod Verbs
pub mod Table
