pub mod Places
pub mod Steps
pub mod Tells
pub mod Laws
pub mod Calls
pub mod Faults
