pub mod Places
pub mod FlagKeys
