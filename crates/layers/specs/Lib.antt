pub mod Flags
pub mod Room
pub mod Named
pub mod Fitted
