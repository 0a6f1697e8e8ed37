pub mod Words
pub mod Numbers
pub mod Text
pub mod Steps
pub mod Data
pub mod Request
