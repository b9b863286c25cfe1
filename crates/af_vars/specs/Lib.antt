pub mod Laws
pub mod Places
pub mod Texts
pub mod Variables
