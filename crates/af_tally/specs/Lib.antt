pub mod Known
pub mod Steps
pub mod Tells
pub mod Laws
