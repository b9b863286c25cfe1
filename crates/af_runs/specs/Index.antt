-- What stands beside the rows, so that no look-up goes over all of them (this product's own rule).
use Rattle.std.specs.Prelude.{ℕ, ◌≡◌, ◌+◌, ◌≤◌, List, length, map, vec_len, vec_capacity}
use Rattle.std.specs.List.Sorted.{IsStrictlySortedBy}
use Rattle.std.specs.Ordering.{nat_cmp}
use Rattle.af_runs.specs.Busy.{busy_numbers, holder_numbers, holds_any, is_busy, with_number}
use Rattle.af_runs.specs.Chains.{AreChains, HasRoom}
use Rattle.af_runs.specs.Codes.{by_ids, by_date}
use Rattle.af_runs.specs.DagLists.{AreDagLists}
use Rattle.af_runs.specs.declared.index.Index.{Index}
use Rattle.af_runs.specs.declared.run.Run.{Run}

-- the index is that of these runs
pub record IsIndex (runs : List Run) (index : Index) : Type 0 where
  pub ids : AreChains (map by_ids runs) index.ids
  pub dates : AreChains (map by_date runs) index.dates
  pub dags : AreDagLists runs index.dags
  pub busy : index.busy.items ≡ busy_numbers runs
  pub holders : index.holders.items ≡ holder_numbers runs

-- so many more runs can be put into it without memory, and each run may be busy and hold slots
pub record HasRoomFor (rows : ℕ) (index : Index) : Type 0 where
  pub ids : HasRoom rows index.ids
  pub dates : HasRoom rows index.dates
  pub busy : vec_len index.ids.earlier + rows ≤ vec_capacity index.busy
  pub holders : vec_len index.ids.earlier + rows ≤ vec_capacity index.holders

-- both lists of numbers rise, and have room for this run as it is now
pub record CanKeep (run : Run) (index : Index) : Type 0 where
  pub busy_order : IsStrictlySortedBy nat_cmp index.busy.items
  pub busy_room : length (with_number run.number (is_busy run) index.busy.items) ≤ vec_capacity index.busy
  pub holders_order : IsStrictlySortedBy nat_cmp index.holders.items
  pub holders_room : length (with_number run.number (holds_any run) index.holders.items) ≤ vec_capacity index.holders
