pub mod Marks
pub mod Gates
pub mod Steps
pub mod Alters
pub mod Attaches
pub mod Places
