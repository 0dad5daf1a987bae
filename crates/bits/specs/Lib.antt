pub mod State
pub mod Words
