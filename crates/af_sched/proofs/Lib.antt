mod AdvanceLemmas
mod BusyLemmas
mod CandidateLemmas
mod ChoosingLemmas
mod ClaimLemmas
mod CountLemmas
mod CreateLemmas
mod DueLemmas
mod EndedLemmas
mod FillLemmas
mod FittingLemmas
mod FrameLemmas
mod HeavyLemmas
mod HolderPlacedLemmas
mod IdleLemmas
mod KeyLemmas
mod LikeLemmas
mod MarkedLemmas
mod NamedLemmas
mod NumberLemmas
mod PassingLemmas
mod PlanLemmas
mod PointsLemmas
mod PooledLemmas
mod RangeLemmas
mod RoomLemmas
mod SeatLemmas
mod SlotsLawLemmas
mod SlotsLemmas
mod StandingLemmas
mod StillLemmas
mod TakenLemmas
mod TickLemmas
pub mod BackfillLawLemmas
pub mod BackfillLemmas
pub mod BackfillPlanLemmas
pub mod FinishLemmas
pub mod HeldLawLemmas
pub mod PlacedLemmas
pub mod QueueLemmas
pub mod SettleLemmas
pub mod StartLemmas
pub mod StateLemmas
