pub mod Entries
pub mod History
pub mod Requests
pub mod Turns
