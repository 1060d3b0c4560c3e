pub mod Caps
pub mod Lists
