pub mod Trailing
pub mod Groups
pub mod Parts
pub mod Settled
pub mod Ends
pub mod FlagOwners
pub mod Called
