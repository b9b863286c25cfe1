-- What is read of a file of at most 16 MiB, to its end (this product's own rule).
use Rattle.std.specs.Prelude.{◌≡◌, ◌<◌, ◌≤◌, ◌⊎◌, ℕ, List, ◌++◌, length}
use Rattle.af_http.specs.Streams.{Given, IsWhole, StaysKnown}
use Rattle.af_server.specs.declared.reason.Reason.{Reason}
use Rattle.af_server.specs.declared.reason.Reason.TheVariants.{Memory, Unreadable}
use Rattle.af_server.specs.Configurations.{longest}

-- What a reader gave from one moment to another is these bytes; it found the end, no read failed, and they are not too many. Where
-- all bytes that come are known, all have come.
pub record CameWhole (before after : Given) (bytes : List ℕ) : Type 0 where
  pub came : after.bytes ≡ before.bytes ++ bytes
  pub ended : before.ends < after.ends
  pub fine : after.failures ≡ before.failures
  pub short : length bytes ≤ longest
  pub known : StaysKnown before.whole after.whole
  pub all : IsWhole after

-- why it can't be had: a read failed; or what the reader gave is too long; or a growth of memory was refused, and no read
-- failed
abbrev pub IsFileFault : Given → Given → Reason → Type 0
IsFileFault before after reason =
    ((reason ≡ Unreadable) × (before.failures < after.failures))
    ⊎ ((reason ≡ Unreadable) × ((text : List ℕ) × (after.bytes ≡ before.bytes ++ text) × (longest < length text)))
    ⊎ ((reason ≡ Memory) × (after.failures ≡ before.failures))

-- one piece more: it stands behind the bytes that were there, and they are not too many
pub record IsPiece (before after : Given) (bytes bytes' : List ℕ) : Type 0 where
  pub piece : List ℕ
  pub came : after.bytes ≡ before.bytes ++ piece
  pub kept : bytes' ≡ bytes ++ piece
  pub ends : before.ends ≤ after.ends
  pub fine : after.failures ≡ before.failures
  pub short : length bytes' ≤ longest
  pub known : StaysKnown before.whole after.whole

-- why a piece can't be had, behind these bytes
abbrev pub IsPieceFault : Given → Given → List ℕ → Reason → Type 0
IsPieceFault before after bytes reason =
    ((reason ≡ Unreadable) × (before.failures < after.failures))
    ⊎ ((reason ≡ Unreadable) × ((piece : List ℕ) × (after.bytes ≡ before.bytes ++ piece) × (longest < length (bytes ++ piece))))
    ⊎ ((reason ≡ Memory) × (after.failures ≡ before.failures))
