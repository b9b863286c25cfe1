-- What becomes of a text that is put: part of it is taken by the writer, and the rest waits for it.
use Rattle.std.specs.Prelude.{◌≡◌, ◌+◌, ◌≤◌, ℕ, Bool, true, false, List, ◌++◌, length, Result, Ok, Err}
use Rattle.af_http.specs.Streams.{Taken, Waiting, Grew}
use Rattle.af_http.specs.declared.stream.Failed.{Failed}

-- where a text goes: what the writer has taken, and what waits for it
pub record Outlet : Type 0 where
  pub sink : Taken
  pub waiting : Waiting

-- all bytes that were put
abbrev pub all_put : Outlet → List ℕ
all_put p = p.sink.bytes ++ p.waiting.bytes

-- A write failed: of all bytes that were put, the writer took some, the failed write was given the next, and these are left.
pub record Broke (new : Taken) (all left : List ℕ) : Type 0 where
  pub failed_at : all ≡ new.bytes ++ (new.refused ++ left)

-- More was put, from one place to another: all of it was taken or waits; or a write failed, and of what was put all but
-- these last bytes had been given to the writer. After a failure nothing more is written.
abbrev pub Went : ℕ → Bool → Bool → Outlet → Outlet → List ℕ → Type 0
Went some false false old new more = (all_put new ≡ all_put old ++ more) × (new.sink.failures ≡ old.sink.failures)
Went some false true old new more =
    (left : List ℕ) × (length left + some ≤ length more) × Broke new.sink (all_put old ++ more) left
    × (new.sink.failures ≡ old.sink.failures + 1)
Went some true true old new more = new.sink ≡ old.sink
Went some true false old new more = ⊥

-- the same, where a failure leaves out so many bytes of the text at most but for this number of them
pub record Puts (some : ℕ) (old new : Outlet) (more : List ℕ) : Type 0 where
  pub enough : some ≤ length more
  pub grew : Grew old.sink new.sink
  pub went : Went some old.waiting.failed new.waiting.failed old new more

-- whether a write failed
abbrev pub has_failed : Result (Unit {0}) Failed → Bool
has_failed (Ok done) = false
has_failed (Err failed) = true

-- the writer took all of the bytes, or some of them before a failure, at which it was given all others
abbrev pub Writes : Taken → Taken → List ℕ → Bool → Type 0
Writes old new bytes false = (new.bytes ≡ old.bytes ++ bytes) × (new.failures ≡ old.failures)
Writes old new bytes true = (old.bytes ++ bytes ≡ new.bytes ++ new.refused) × (new.failures ≡ old.failures + 1)
