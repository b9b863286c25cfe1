mod DecodeLemmas
mod LawLemmas
mod PageLemmas
mod WholeLemmas
