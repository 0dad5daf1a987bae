pub mod Takes
pub mod Lives
pub mod Pigeon
pub mod Kept
pub mod Laws
pub mod Running
pub mod Pricing
