-- What the steps of the fourth phase keep. No public contract cites this file.
use Rattle.std.specs.Prelude.{ℕ, ◌≡◌, ◌+◌, ◌<◌, ◌&&◌, ◌==◌, Bool, true, List, map, length, All, Contains, nat_le, slice_index_or}
use Rattle.std.specs.List.{list_any, IsDistinct}
use Rattle.std.specs.Ordering.{nat_cmp, ordering_then, is_lt}
use Rattle.std.specs.Cmp.Lexicographic.{slice_cmp}
use Rattle.std.specs.declared.cmp.Ordering.{Ordering}
use Rattle.af_pool.specs.Occupants.{slots_taken}
use Rattle.af_pool.specs.Pools.{slots_of}
use Rattle.af_pool.specs.declared.pool.Pool.{Pool}
use Rattle.af_runs.specs.declared.run.Run.{Run}
use Rattle.af_sched.specs.Placed.{Placed, placed_cmp}
use Rattle.af_sched.specs.Queue.{occupant_of, queued_earlier, with_queued}
use Rattle.af_sched.specs.declared.seat.Seat.{Seat}

-- whether the seat is that of the instance at a place of the run of a number
abbrev pub is_at : Seat → ℕ → ℕ → Bool
is_at seat number place = (seat.number == number) && (seat.place == place)

-- whether that instance's seat is one of these
abbrev pub is_among : List Seat → ℕ → ℕ → Bool
is_among seats number place = list_any (λ seat. is_at seat number place) seats

-- a run, its instance queued where the seat is in this run
abbrev pub with_seat : Seat → Run → Run
with_seat seat run = with_queued (is_at seat run.number) run

-- whether two instances are one
abbrev pub same_seat : Placed → Placed → Bool
same_seat one other = (one.run.number == other.run.number) && (one.place == other.place)

-- how one instance stands to another: by the name of its pool, then as they are queued
abbrev pub pooled_cmp : Placed → Placed → Ordering
pooled_cmp one other = ordering_then (slice_cmp nat_cmp one.task.pool other.task.pool) (placed_cmp one other)

-- the slots of the pool of this name that these instances hold
abbrev pub held_of : List Placed → List ℕ → ℕ
held_of all pool = slots_taken pool (map occupant_of all)

-- whether an instance finds room, where those of the seats are queued
abbrev pub fits : List Pool → List Placed → List Seat → Placed → Bool
fits pools all seats placed =
    nat_le (placed.task.pool_slots + held_of all placed.task.pool + queued_earlier (is_among seats) all placed) (slots_of pools placed.task.pool)

-- the candidates are among all instances, of which no two are one, and stand in their order
pub record AreCandidates (all candidates : List Placed) : Type 0 where
  pub distinct : IsDistinct same_seat all
  pub members : All (Contains all) candidates
  pub in_order : (i j : ℕ) (d : Placed) → i < j → j < length candidates → is_lt (pooled_cmp (slice_index_or candidates i d) (slice_index_or candidates j d)) ≡ true

-- the seats are those of the candidates that find room
pub record Chooses (pools : List Pool) (all candidates : List Placed) (seats : List Seat) : Type 0 where
  pub exact : All (λ placed. is_among seats placed.run.number placed.place ≡ fits pools all seats placed) candidates
  pub only : (placed : Placed) → Contains all placed → is_among seats placed.run.number placed.place ≡ true → Contains candidates placed
