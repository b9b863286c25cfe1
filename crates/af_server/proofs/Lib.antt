pub mod WorldRunLemmas
pub mod DeskLemmas
pub mod AnswerLemmas
pub mod AloneLemmas
pub mod AloneRunLemmas
pub mod LawLemmas
pub mod VerifiedLemmas
pub mod VariableLemmas
pub mod ConfigurationLemmas
pub mod ProgramLemmas
pub mod ReportLemmas
pub mod ServingLemmas
pub mod ReportLawLemmas
mod TickerLemmas
