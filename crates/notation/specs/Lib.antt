pub mod Numbers
pub mod Digits
pub mod RangeTexts
pub mod Small
pub mod Lines
pub mod Left
pub mod Words
