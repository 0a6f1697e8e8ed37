pub mod Bit
pub mod OneResult
pub mod Pick
pub mod Put
pub mod Tabulate
