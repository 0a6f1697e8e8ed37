pub mod Doing
pub mod Coming
pub mod Serving
pub mod Turns
pub mod Shifts
