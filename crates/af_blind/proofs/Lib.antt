mod KeptLemmas
mod SightLemmas
pub mod VerdictLemmas
pub mod HiddenLemmas
