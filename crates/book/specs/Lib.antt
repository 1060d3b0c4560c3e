pub mod KeyRows
pub mod SameKeys
pub mod Books
