pub mod PlaneLemmas
pub mod ActLemmas
pub mod BlindLemmas
pub mod VersionLemmas
pub mod SheetLemmas
pub mod PolicyLemmas
pub mod TurnLemmas
pub mod AskedLemmas
pub mod SessionLemmas
pub mod RunLemmas
pub mod EventLemmas
pub mod SharedLemmas
mod ControlLemmas
mod StayLemmas
pub mod ClosingLemmas
pub mod NameLemmas
mod CallLemmas
mod LookLemmas
mod HandingLemmas
pub mod Threads
pub mod SessionThreads
