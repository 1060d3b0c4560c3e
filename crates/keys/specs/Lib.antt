pub mod KeysAt
