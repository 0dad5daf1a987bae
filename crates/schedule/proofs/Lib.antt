pub mod Times
pub mod Entries
pub mod Happens
pub mod Once
pub mod Turns
pub mod Serving
