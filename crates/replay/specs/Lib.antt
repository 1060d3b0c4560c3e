pub mod Said
pub mod Under
pub mod Ranged
pub mod Worlds
