pub mod Marked
pub mod Calls
pub mod Given
pub mod Runs
pub mod Law
pub mod Called
