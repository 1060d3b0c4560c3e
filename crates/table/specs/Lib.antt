pub mod Entries
pub mod Tables
pub mod Meant
pub mod Capped
pub mod Fitted
