pub mod Length
pub mod Tables
pub mod Received
