pub mod Names
pub mod Instants
pub mod CivilDays
pub mod Isoformat
pub mod Presets
pub mod Points
