pub mod LawLemmas
pub mod VariableLemmas
