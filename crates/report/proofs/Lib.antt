pub mod Few
pub mod Reported
