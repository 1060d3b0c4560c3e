pub mod ArgKeys
pub mod KeyLists
