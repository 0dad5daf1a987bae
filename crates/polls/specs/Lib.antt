pub mod Step
pub mod Through
pub mod Kinds
pub mod Runs
