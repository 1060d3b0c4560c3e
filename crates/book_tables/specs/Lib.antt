pub mod Held
pub mod Marks
pub mod Steps
pub mod Tables
pub mod Taken
pub mod Rows
pub mod Fitted
