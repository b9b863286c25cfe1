-- A store between two calls of a journal.
use Rattle.std.specs.Prelude.{◌≡◌, ℕ, false, List, length, IsTrue, ⊤}
use Rattle.sqlite_trees.specs.View.{View}
use Rattle.sqlite_trees.specs.declared.error.StoreError.{StoreError}
use Rattle.sqlite_trees.specs.declared.error.StoreError.TheVariants.{Io, Corrupt, Full}
use Rattle.af_journal.specs.Lines.{Entry, HasEntries}

-- nothing is pending
abbrev pub IsFresh : View → Type 0
IsFresh v = IsTrue v.is_open → (v.trees ≡ v.committed) × (v.is_broken ≡ false)

-- the last commit stands, in a store that was open
abbrev pub KeepsCommit : View → View → Type 0
KeepsCommit old new = IsTrue old.is_open × (new.committed ≡ old.committed)

-- while the store is open nothing is pending, and what is committed is so many entries
pub record IsAtRest (v : View) (count : ℕ) : Type 0 where
  pub sound : IsTrue v.is_open → v.is_broken ≡ false
  pub clean : IsTrue v.is_open → v.trees ≡ v.committed
  pub held : IsTrue v.is_open → (entries : List Entry) × HasEntries v.committed entries × (count ≡ length entries)

-- the error names the disk only if the disk failed or a limit was met
abbrev pub IsCause : Type 0 → StoreError → Type 0
IsCause fault Io = fault
IsCause fault Corrupt = fault
IsCause fault Full = fault
IsCause fault _ = ⊤
