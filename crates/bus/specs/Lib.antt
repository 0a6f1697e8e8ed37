pub mod Event
pub mod Hits
pub mod Numbers
pub mod Pins
