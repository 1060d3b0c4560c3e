pub mod Forms
pub mod SmallTypes
pub mod Books
pub mod All
