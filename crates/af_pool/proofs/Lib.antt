pub mod PoolLemmas
pub mod SlotLemmas
