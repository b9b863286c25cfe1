mod BookLemmas
mod GroupLemmas
mod KeptLemmas
mod ReadLemmas
mod LawLemmas
