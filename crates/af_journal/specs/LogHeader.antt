-- What the first bytes of a log say, before anything is made of it (the write-ahead log of SQLite's file format).
use Rattle.std.specs.Prelude.{◌≡◌, ◌⊎◌, ℕ, ◌<◌, ◌≤◌, ◌/◌, List, length, slice_index}
use Rattle.sqlite_wal.specs.Format.{IsSigned, be32}
use Rattle.sqlite_wal.specs.Recovery.{header}
use Rattle.af_journal.specs.declared.log_header.LogHeader.{LogHeader}
use Rattle.af_journal.specs.declared.log_header.LogHeader.TheVariants.{Short, Sound, Damaged}

-- The log has room for a header, and for no frame.
abbrev pub IsShort : List ℕ → Type 0
IsShort log = length log ≤ 41

-- A log is emptied behind a first byte of 0, once the database file has all that it holds. A crash may leave it so.
-- The magic number's other bytes, the version and the page size are the same before and after,
-- so each byte of them stands where a torn write leaves each byte old or new.
pub record IsBeingEmptied (head : List ℕ) : Type 0 where
  pub first : slice_index head 0 ≡ 0
  pub second : slice_index head 1 ≡ 0x7f
  pub third : slice_index head 2 ≡ 0x06
  pub fourth : slice_index head 3 / 2 ≡ 0x82 / 2
  pub version : be32 head 4 ≡ 3007000
  pub size : be32 head 8 ≡ 4096

-- The log can hold frames, and its header is neither signed nor being written anew.
pub record IsDamaged (log : List ℕ) : Type 0 where
  pub long : 41 < length log
  pub unsigned : ¬ IsSigned (header log)
  pub stays : ¬ IsBeingEmptied (header log)

-- what each answer says of the log
abbrev pub Says : List ℕ → LogHeader → Type 0
Says log Short = IsShort log
Says log Sound = (41 < length log) × (IsSigned (header log) ⊎ IsBeingEmptied (header log))
Says log Damaged = IsDamaged log
