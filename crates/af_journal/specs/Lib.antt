pub mod Files
pub mod Lines
pub mod LogHeader
pub mod Refusal
pub mod Rest
pub mod Shown
