pub mod Data
pub mod Parts
pub mod ReadBack
