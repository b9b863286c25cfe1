mod TextLemmas
mod PieceLemmas
mod ReadLemmas
mod OpeningLemmas
mod ChangeLemmas
mod FactLemmas
mod EntryLemmas
mod ChainLemmas
