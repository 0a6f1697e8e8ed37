pub mod Why
pub mod Fields
