-- Looks of the plane and of a session: what is decided then is decided under the version that was found (this product's own rule).
use Rattle.std.specs.Prelude.{◌≡◌, ◌+◌, ◌<◌, ℕ, length}
use mathlib.Core.List.{IsPrefix}
use Rattle.atomic_table.specs.Seated.{TableId}
use Rattle.af_ops.specs.declared.served.Served.{Served}
use Rattle.af_ops.specs.PolicyUnder.{IsNoPolicyTold}
use Rattle.af_audit.specs.Ledgers.{LedgerRows}
use Rattle.af_board.specs.Marks.{HasSeen, IsOf, Marked, Site, policy_of}
use Rattle.af_word.specs.Calls.{Looked}
use Rattle.af_plane.specs.declared.grounds.Grounds.{Grounds}
use Rattle.af_plane.specs.declared.grounds.Grounds.TheVariants.{Made, Overtaken, Spent, Under}
use Rattle.af_plane.specs.Visits.{PlaneRows, Visit}

-- the ledger, whose acts are decided under this version from now on
abbrev pub looked : ℕ → LedgerRows → LedgerRows
looked version ledger = record ledger { version = version }

-- What an answer rests on: an open operation is decided under no version; the policy of the last version may not be to be had, and then
-- nothing is decided; else the session holds the marks of what decided it.
pub data Basis : Type 0 where
  Openly : Basis
  Missed : Basis
  On : (grounds : Grounds) → Basis

-- the version under which it was decided
abbrev pub base_of : Grounds → Marked
base_of (Under m) = m
base_of (Made r) = r.base
base_of (Overtaken m) = m
base_of (Spent m pushed) = m

-- the last version of which a session holds the mark
abbrev pub held : Grounds → Marked
held (Under m) = m
held (Made r) = r.mark
held (Overtaken m) = m
held (Spent m pushed) = m

-- a session is on a board: its pass is of the board's word, and the last version of which it holds the mark is one of the board's, which it
-- has seen
pub record IsOn (site : Site) (visit : Visit) : Type 0 where
  pub word : visit.pass.word ≡ site.word
  pub mark : IsOf site (held visit.grounds)
  pub seen : HasSeen visit.pass (held visit.grounds)

-- a plane and a session are over one board and one keeper
pub record AreOver (site : Site) (id : TableId) (plane : PlaneRows) (visit : Visit) : Type 0 where
  pub word : plane.pass.word ≡ site.word
  pub keeper : plane.keeper.keeper ≡ id
  pub on : IsOn site visit
  pub witness : visit.entries.keeper ≡ id

-- a session has met a plane: it has seen what the plane has, of the board and of the entries, which begin with those that it had seen
pub record HasMet (old : PlaneRows) (was : Visit) (new : PlaneRows) (now : Visit) : Type 0 where
  pub places : now.pass.places ≡ new.pass.places
  pub begins : IsPrefix was.entries.entries old.keeper.entries
  pub entries : now.entries ≡ new.keeper
  -- by a meeting and a look, and two splits, and nothing else: no version was published
  pub steps : new.pass.steps ≡ old.pass.steps + 2
  pub deeds : new.pass.deeds ≡ old.pass.deeds + was.pass.deeds + 2
  pub given : now.pass.deeds ≡ new.pass.deeds

-- A session has read a plane beside others: the plane is as it was. The session has looked at the version at which the plane looked last, and
-- has seen what the plane has of the entries, which begin with those that it had seen. Only the number of that version is tied to the plane,
-- and not its place.
pub record HasRead (old : PlaneRows) (was : Visit) (new : PlaneRows) (now : Visit) : Type 0 where
  pub plane : new ≡ old
  pub version : length now.pass.places ≡ old.ledger.version + 1
  pub begins : IsPrefix was.entries.entries old.keeper.entries
  pub entries : now.entries ≡ new.keeper
  -- it has looked
  pub looked : was.pass.steps < now.pass.steps
  -- no version was published, and no pass was split
  pub deeds : now.pass.deeds ≡ was.pass.deeds

-- a session has looked, and done nothing else
pub record HasOnlyLooked (was now : Visit) : Type 0 where
  pub pass : Looked was.pass now.pass
  pub entries : now.entries ≡ was.entries
  pub grounds : now.grounds ≡ was.grounds

-- a session has looked, once or more often, and done nothing else
pub record HasWatched (was now : Visit) : Type 0 where
  pub longer : IsPrefix was.pass.places now.pass.places
  pub steps : was.pass.steps < now.pass.steps
  pub deeds : now.pass.deeds ≡ was.pass.deeds
  pub entries : now.entries ≡ was.entries
  pub grounds : now.grounds ≡ was.grounds

-- A session has visited a plane, which did not look: both are over one board and one keeper still, and have seen the same of both, and all
-- that either had seen; the session holds the mark that it had.
pub record HasVisited (site : Site) (id : TableId) (old : PlaneRows) (was : Visit) (new : PlaneRows) (now : Visit) : Type 0 where
  pub over : AreOver site id new now
  pub longer : IsPrefix was.pass.places now.pass.places
  pub plane_longer : IsPrefix old.pass.places new.pass.places
  pub places : now.pass.places ≡ new.pass.places
  pub begins : IsPrefix was.entries.entries old.keeper.entries
  pub entries : now.entries ≡ new.keeper
  pub grounds : now.grounds ≡ was.grounds
  -- by a meeting and two splits, and nothing else: no version was published
  pub steps : new.pass.steps ≡ old.pass.steps + 1
  pub deeds : new.pass.deeds ≡ old.pass.deeds + was.pass.deeds + 2
  pub given : now.pass.deeds ≡ new.pass.deeds

-- where a version is the last one of which a session held the mark, both marks have one policy
abbrev pub HasSame : Site → Grounds → Marked → Type 0
HasSame site was m = m.version ≡ (held was).version → policy_of site m ≡ policy_of site (held was)

-- how many versions a session made that holds this of its last answer
abbrev pub versions_made : Grounds → ℕ
versions_made (Under m) = 0
versions_made (Made r) = 1
versions_made (Overtaken m) = 0
versions_made (Spent m pushed) = 0

-- The policy of the last version was not to be had, and nothing was decided: that is reported under no version, or there was no memory. It
-- never comes at version 0.
pub record IsMissed (was : Visit) (gave : Served) (now : Visit) : Type 0 where
  pub grounds : now.grounds ≡ was.grounds
  pub later : 1 < length now.pass.places
  pub told : IsNoPolicyTold gave
