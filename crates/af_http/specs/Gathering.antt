-- What gathering the bytes of a head says of them.
use Rattle.std.specs.Prelude.{◌≡◌, ◌<◌, ◌≤◌, ◌+◌, ℕ, Bool, true, false, List, ◌++◌, length, take, drop, Result, Ok, Err}
use Rattle.af_http.specs.Limits.{head_limit}
use Rattle.af_http.specs.Streams.{Given}
use Rattle.af_http.specs.Fronts.{nothing, part, large, whole, front_of}
use Rattle.af_http.specs.Extents.{open_front}
use Rattle.af_http.specs.declared.stream.Failed.{Failed}
use Rattle.af_http.specs.declared.gathering.BodyGathered.{BodyGathered}
use Rattle.af_http.specs.declared.gathering.BodyGathered.TheVariants as body
use Rattle.af_http.specs.declared.gathering.Gathered.{Gathered}
use Rattle.af_http.specs.declared.gathering.Gathered.TheVariants.{Head, Large, Closed, Incomplete, ReadFailed, Turns}

-- more bytes were given, and they are held at the end
pub record Fills (given given' : Given) (held held' more : List ℕ) : Type 0 where
  pub came : given'.bytes ≡ given.bytes ++ more
  pub kept : held' ≡ held ++ more

-- whether a read found the end, or failed, by what it says of its bytes
abbrev pub ends_in : Result Bool Failed → ℕ
ends_in (Ok true) = 0
ends_in (Ok false) = 1
ends_in (Err failed) = 0

abbrev pub failures_in : Result Bool Failed → ℕ
failures_in (Ok some) = 0
failures_in (Err failed) = 1

-- more bytes were given, and what was held with them reads as what is held now, whatever follows
pub record Holds (given given' : Given) (held held' more : List ℕ) : Type 0 where
  pub came : given'.bytes ≡ given.bytes ++ more
  pub same : (tail : List ℕ) → front_of (held ++ more ++ tail) ≡ front_of (held' ++ tail)

-- what is held
abbrev pub IsGathered : List ℕ → Gathered → Type 0
IsGathered held (Head n) = (n ≤ length held) × (n ≤ head_limit + 1) × ((tail : List ℕ) → front_of (held ++ tail) ≡ whole (take n held) (drop n held ++ tail))
IsGathered held Large = front_of held ≡ large
IsGathered held Closed = front_of held ≡ nothing
IsGathered held Incomplete = front_of held ≡ part
IsGathered held ReadFailed = front_of held ≡ open_front held
IsGathered held Turns = front_of held ≡ open_front held

-- whether the last read found the end, or failed
abbrev pub ends_of : Gathered → ℕ
ends_of (Head n) = 0
ends_of Large = 0
ends_of Closed = 1
ends_of Incomplete = 1
ends_of ReadFailed = 0
ends_of Turns = 0

abbrev pub failures_of : Gathered → ℕ
failures_of (Head n) = 0
failures_of Large = 0
failures_of Closed = 0
failures_of Incomplete = 0
failures_of ReadFailed = 1
failures_of Turns = 0

-- so many bytes are held, or fewer
abbrev pub IsBodyGathered : ℕ → List ℕ → BodyGathered → Type 0
IsBodyGathered wanted held body.Whole = wanted ≤ length held
IsBodyGathered wanted held body.Cut = length held < wanted
IsBodyGathered wanted held body.ReadFailed = length held < wanted
IsBodyGathered wanted held body.Turns = length held < wanted

abbrev pub body_ends : BodyGathered → ℕ
body_ends body.Whole = 0
body_ends body.Cut = 1
body_ends body.ReadFailed = 0
body_ends body.Turns = 0

abbrev pub body_failures : BodyGathered → ℕ
body_failures body.Whole = 0
body_failures body.Cut = 0
body_failures body.ReadFailed = 1
body_failures body.Turns = 0
