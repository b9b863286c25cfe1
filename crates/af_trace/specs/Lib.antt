pub mod Members
pub mod Kinds
pub mod Asked
pub mod Steps
pub mod Answers
pub mod Traces
pub mod Laws
