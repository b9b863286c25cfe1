pub mod Readings
pub mod Members
pub mod Parsed
pub mod Ordered
pub mod Places
pub mod JsonValue
