pub mod Marks
pub mod Drafted
pub mod Drafts
pub mod Faults
pub mod Pushes
