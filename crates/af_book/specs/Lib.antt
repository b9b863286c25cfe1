pub mod Records
pub mod Books
pub mod Groups
pub mod Kept
pub mod Reads
pub mod Laws
