pub mod RuleLemmas
pub mod GrantedLemmas
pub mod SeenLemmas
pub mod VerdictLemmas
pub mod ToldLemmas
pub mod JudgedLemmas
pub mod SubmitLemmas
pub mod ServedLemmas
pub mod AskedLemmas
pub mod WorldLemmas
pub mod SightLemmas
pub mod ActedLemmas
pub mod MadeLemmas
pub mod PlaneLemmas
pub mod KeptLemmas
pub mod ActLemmas
pub mod PublishLemmas
mod PermittedLemmas
pub mod CountLemmas
pub mod AnswerLemmas
pub mod RefusalLemmas
pub mod TextLemmas
pub mod ListingLemmas
mod OneRowLemmas
mod PageLemmas
pub mod OneLemmas
pub mod TraceLemmas
pub mod LawLemmas
mod BlindLemmas
mod ReadyLemmas
mod OpReadyLemmas
mod TakenLemmas
mod DueReadyLemmas
mod SettledLemmas
mod QueuedLemmas
mod KnownLemmas
mod TickTakenLemmas
