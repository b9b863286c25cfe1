mod BackfillLemmas
mod BodyLemmas
mod CallLemmas
mod ClearingLemmas
mod DecisionLemmas
mod DeletingLemmas
mod EditLemmas
mod InOrderLemmas
mod InstantLemmas
mod KeyLemmas
mod LawLemmas
mod ListingLemmas
mod MarkingLemmas
mod MemberLemmas
mod NamedLemmas
mod PageLemmas
mod PairLemmas
mod PlainLemmas
mod PolicyLawLemmas
pub mod PolicyUnderLemmas
mod PoolLemmas
pub mod ReadingLemmas
mod RowLawLemmas
mod RunLemmas
mod SeenTakingLemmas
mod ShownLemmas
mod StepLemmas
mod TableLemmas
mod TaskLemmas
mod TellingLemmas
mod TextLemmas
pub mod UnreadLemmas
mod VariableLemmas
