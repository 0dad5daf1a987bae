pub mod Racks
pub mod History
pub mod Law
pub mod Runs
pub mod Prices
