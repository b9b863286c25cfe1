mod MemberLemmas
mod JsonLemmas
mod GrammarLemmas
mod BorrowedLemmas
pub mod TakingLemmas
pub mod OrderedLemmas
pub mod GrownLemmas
