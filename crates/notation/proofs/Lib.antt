pub mod Decimal
pub mod DigitScans
pub mod Dots
pub mod Letters
pub mod Runs
pub mod Feeds
