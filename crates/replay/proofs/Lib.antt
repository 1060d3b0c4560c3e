pub mod Makes
pub mod Unbuilt
pub mod Runs
pub mod Laws
