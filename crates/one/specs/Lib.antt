pub mod Law
pub mod Shapes
pub mod Frames
pub mod Counting
pub mod Device
pub mod Doors
