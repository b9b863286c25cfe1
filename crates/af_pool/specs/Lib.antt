pub mod Laws
pub mod Occupants
pub mod Places
pub mod Pools
pub mod Texts
