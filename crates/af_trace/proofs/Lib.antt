mod WholeLemmas
mod RecordLemmas
mod AgreeLemmas
