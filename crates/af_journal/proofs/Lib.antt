pub mod FileLemmas
pub mod RowLemmas
pub mod ShownLemmas
pub mod StepLemmas
