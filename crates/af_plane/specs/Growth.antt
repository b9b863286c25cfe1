-- What a call leaves of the entries: all of them, and one more at most (this product's own rule).
use Rattle.std.specs.Prelude.{◌≡◌, ◌⊎◌, List, [], ◌∷◌, ◌++◌}
use Rattle.af_audit.specs.declared.entry.Entry.{Entry}
use Rattle.af_plane.specs.Visits.{PlaneRows}

abbrev pub IsOneMore : List Entry → List Entry → Type 0
IsOneMore was now = (now ≡ was) ⊎ ((entry : Entry) × (now ≡ was ++ entry ∷ []))

-- the plane has the pass that it had, and the same keeper
pub record HasStayed (old new : PlaneRows) : Type 0 where
  pub pass : new.pass ≡ old.pass
  pub keeper : new.keeper.keeper ≡ old.keeper.keeper
