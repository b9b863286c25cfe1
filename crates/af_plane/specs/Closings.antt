-- When no thread shares a control any more: what its sessions had seen are beginnings of one list of versions and of one list of entries (this
-- product's own rule).
use Rattle.std.specs.Prelude.{◌≡◌, List, [], ◌∷◌}
use mathlib.Core.List.{IsPrefix}
use Rattle.af_prefixes.specs.Beginnings.{Agree}
use Rattle.af_plane.specs.declared.grounds.Grounds.TheVariants.{Under}
use Rattle.af_plane.specs.Names.{Name, no_name, no_table}
use Rattle.af_plane.specs.Solos.{first_mark}
use Rattle.af_plane.specs.Visits.{PlaneRows, SessionRows, Visit}

-- what was noted first, of a list in which something was; of an empty one, what holds nothing
abbrev pub first_of : List (Visit × Unit {0}) → Visit
first_of [] = record {
  pass = record { word = no_name.site.word; places = []; steps = 0; deeds = 0 };
  entries = record { keeper = no_table; entries = [] };
  grounds = Under first_mark;
}
first_of (noted ∷ later) = noted.0

-- a session is of the control of this name: it has looked at its board, and has been shown the entries of its keeper
pub record IsOfControl (name : Name) (session : SessionRows) : Type 0 where
  pub word : session.visit.pass.word ≡ name.site.word
  pub keeper : session.visit.entries.keeper ≡ name.keeper

-- what a session has seen of the versions and of the entries begins what the plane has seen of them
pub record IsWithin (plane : PlaneRows) (visit : Visit) : Type 0 where
  pub versions : IsPrefix visit.pass.places plane.pass.places
  pub entries : IsPrefix visit.entries.entries plane.keeper.entries

-- what a plane has seen of the versions goes on, and its ledger and its entries are as they were
pub record HasTakenIn (old new : PlaneRows) : Type 0 where
  pub word : new.pass.word ≡ old.pass.word
  pub ledger : new.ledger ≡ old.ledger
  pub keeper : new.keeper ≡ old.keeper
  pub versions : IsPrefix old.pass.places new.pass.places

-- Two sessions agree: wherever both have seen an entry of one number, it is the same entry; and wherever both have seen a version, it has the same
-- place on the board.
pub record AgreeWith (one other : Visit) : Type 0 where
  pub entries : Agree one.entries.entries other.entries.entries
  pub versions : Agree one.pass.places other.pass.places
