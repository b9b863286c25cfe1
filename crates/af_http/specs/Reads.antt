-- How often the reader is read for each request of a run.
use Rattle.std.specs.Prelude.{◌≡◌, ◌≤◌, ◌+◌, ◌*◌, ℕ, Bool, List, [], ◌∷◌, ◌++◌, length}
use Rattle.af_http.specs.Limits.{read_limit}
use Rattle.af_http.specs.Streams.{Given, Took, EachWhile, one_if}
use Rattle.af_http.specs.Requests.{Asked}
use Rattle.af_http.specs.Reading.{Begins, IsOpen}
use Rattle.af_http.specs.Run.{Exchange, asked_in}
use Rattle.af_http.specs.declared.ended.Ended.{Ended}
use Rattle.af_http.specs.declared.ended.Ended.TheVariants as end

-- From one moment of the reader to another these bytes came, behind those that were left: in no more reads than so many
-- before leave of those that one request may take. At each read no request was whole, and none refused, in what was left
-- with what had come by then. So none was made where what was left holds a whole request, or is refused, and none after the
-- one that made it so. So many of the reads found the end, so many failed, and each other gave a byte.
pub record Awaits (used ends failures : ℕ) (before after : Given) (left came : List ℕ) : Type 0 where
  pub count : ℕ
  pub took : Took count ends failures before after
  pub few : used + count ≤ read_limit
  pub came_is : after.bytes ≡ before.bytes ++ came
  pub needed : EachWhile (λ brought. IsOpen (left ++ brought)) before after came

-- These requests were awaited one after another, each from the moment at which the one before it was whole: what was left
-- then, with the bytes that came since, begins with it. That is the first such moment, since no read was made from it on for
-- the one before: so the reads of each request are its own.
abbrev pub Awaited : Given → List ℕ → List Asked → Given → List ℕ → Type 0
Awaited start left [] now rest = (now ≡ start) × (rest ≡ left)
Awaited start left (asked ∷ more) now rest =
    (next : Given) × (came : List ℕ) × (after : List ℕ)
    × Awaits 0 0 0 start next left came × Begins (left ++ came) asked after × Awaited next after more now rest

-- a read failed where the run ended for that
abbrev pub read_faults : Ended → ℕ
read_faults end.ReadFault = 1
read_faults end.Closed = 0
read_faults end.WriteFault = 0
read_faults (end.Refused status) = 0
read_faults end.Turns = 0
read_faults end.NoMemory = 0

-- The reads of a run: its requests were awaited one after another, and then its end. Only the last read may have found
-- the end, or failed. A run ends for too many reads only where there were as many, since the last request, as one may take.
pub record Reads (old new : Given) (exchanges : List Exchange) (ended : Bool) (e : Ended) : Type 0 where
  pub last : Given
  pub left : List ℕ
  pub came : List ℕ
  pub each : Awaited old [] (asked_in exchanges) last left
  pub after : Awaits 0 (one_if ended) (read_faults e) last new left came
  pub too_many : e ≡ end.Turns → new.reads ≡ last.reads + read_limit
  pub count : ℕ
  pub all : Took count (one_if ended) (read_faults e) old new
  pub few : count ≤ read_limit * (1 + length exchanges)
