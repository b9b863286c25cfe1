-- Connections during which the session sees no version but those that it makes. Then an answer depends on what was asked, and on nothing
-- but the last version that was seen with its policy, the last possible version, the ledger, and the moment (this product's own rule).
use Rattle.std.specs.Prelude.{◌≡◌, ◌+◌, ℕ, List, Option, length}
use Rattle.af_policy.specs.Rows.{PolicyRows}
use Rattle.af_ops.specs.declared.call.Call.{Call}
use Rattle.af_ops.specs.declared.served.Served.{Served}
use Rattle.af_audit.specs.Ledgers.{LedgerRows}
use Rattle.af_board.specs.Marks.{Marked, Site, policy_of}
use Rattle.af_plane.specs.declared.grounds.Grounds.TheVariants.{Made, Overtaken, Spent, Under}
use Rattle.af_plane.specs.Looks.{Basis, Missed, On, Openly, held}
use Rattle.af_plane.specs.Solos.{IsAnswered}
use Rattle.af_plane.specs.Visits.{Visit}
use Rattle.af_server.specs.Desks.{DeskRows, asked_at}

-- An answer rests on the last version that the session had seen: that is the version under which it was decided, and no other was published
-- before what it made. Its policy was to be had, and the board had a place.
abbrev pub IsOwn : Visit → Basis → Type 0
IsOwn was Openly = Unit {0}
IsOwn was Missed = ⊥
IsOwn was (On (Under m)) = length was.pass.places ≡ m.version + 1
IsOwn was (On (Made r)) = length was.pass.places ≡ r.base.version + 1
IsOwn was (On (Overtaken m)) = ⊥
IsOwn was (On (Spent m pushed)) = ⊥

-- the call is decided where its data live, and its answer rests on the last version that the session had seen; and the moment stays
abbrev pub DecidesAlone : DeskRows → Option (List ℕ) → Call → Served → DeskRows → Type 0
DecidesAlone old token asked gave new =
    (basis : Basis) × IsAnswered old.solo (asked_at old.now token asked) gave new.solo basis × (new.now ≡ old.now) × IsOwn old.solo.session basis

-- ---- desks that are alike

-- on what an answer depends
pub record Stand : Type 0 where
  pub version : ℕ
  pub policy : PolicyRows
  pub last : ℕ
  pub ledger : LedgerRows
  pub now : ℕ

-- under the version that a mark names
abbrev pub stand_at : Site → LedgerRows → ℕ → Marked → Stand
stand_at site ledger now m = record { version = m.version; policy = policy_of site m; last = site.word.last; ledger = ledger; now = now }

-- that of a desk: under the last version of which its session holds the mark
abbrev pub stand_of : DeskRows → Stand
stand_of desk = stand_at desk.solo.site desk.solo.plane.ledger desk.now (held desk.solo.session.grounds)

-- the session holds the mark of the last version that it has seen
abbrev pub HoldsLast : DeskRows → Type 0
HoldsLast desk = length desk.solo.session.pass.places ≡ (held desk.solo.session.grounds).version + 1

-- answers of both depend on the same
pub record AreAlike (one other : DeskRows) : Type 0 where
  pub stand : stand_of one ≡ stand_of other
  pub one_holds : HoldsLast one
  pub other_holds : HoldsLast other
