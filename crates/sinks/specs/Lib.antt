pub mod Flow
pub mod Alike
pub mod Offers
pub mod Sinks
