-- What a journal shows to its callers.
use Rattle.std.specs.Prelude.{◌⊎◌, ℕ, ◌≤◌, Bool, List, IsTrue, refl}
use Rattle.std.specs.Coded.{Coded, code_by, coded×, coded_ℕ, coded_bool, coded_list}
use Rattle.sqlite_disk.specs.Disk.{MoreFaults}
use Rattle.sqlite_trees.specs.Tree.{Trees}
use Rattle.sqlite_trees.specs.View.{IsClean}
use Rattle.sqlite_trees.specs.declared.error.StoreError.{StoreError}
use Rattle.sqlite_trees.specs.declared.store.Store.{Ghosts}
use Rattle.af_journal.specs.Lines.{Entry}
use Rattle.af_journal.specs.Rest.{IsCause}

pub record Shown (S : Type 0) : Type 0 where
  -- it can be read and added to; a failure that only another open mends shuts it
  pub is_open : Bool
  -- the lines that are committed, which say nothing once it is shut
  pub entries : List Entry
  -- the store under it, which alone knows what a crash may leave
  pub store : S

abbrev pub shown_code : {S : Type 0} → Coded S → Coded (Shown S)
shown_code {S} store =
    code_by (Bool × (List Entry × S)) (coded× coded_bool (coded× (coded_list (coded× (coded_list coded_ℕ) (coded_list coded_ℕ))) store))
    (λ it. (it.is_open, (it.entries, it.store))) (λ p. record { is_open = p.0; entries = p.1.0; store = p.1.1 }) (λ _. refl)

module _ {S : Type 0} (g : Ghosts S) where
  -- A crash at this moment may leave this database.
  abbrev pub MayLeave : Shown S → Trees → Type 0
  MayLeave it db = g.recovers it.store db

  -- No wrong answer of the disk has been taken as true. No code can tell.
  abbrev pub IsHonest : Shown S → Type 0
  IsHonest it = IsClean (g.view it.store)

  -- how many calls of the disk have failed, or met a limit of the format
  abbrev pub faults : Shown S → ℕ
  faults it = g.faults it.store

  -- Each later read of a file is tested against a digest.
  abbrev pub IsShielded : Shown S → Type 0
  IsShielded it = g.is_shielded it.store

  -- No fault and no wrong answer is forgotten, and only a fault shuts the journal.
  pub record GoesOn (old new : Shown S) : Type 0 where
    pub counts : faults old ≤ faults new
    pub honest : IsHonest new → IsHonest old
    pub shield : IsShielded old → IsShielded new
    pub shuts : IsHonest new → IsTrue old.is_open → IsTrue new.is_open ⊎ MoreFaults (faults old) (faults new)

  -- The error names the disk only if the disk failed during the call or a limit was met.
  abbrev pub HasCause : Shown S → Shown S → StoreError → Type 0
  HasCause old new error = IsHonest new → IsCause (MoreFaults (faults old) (faults new)) error
