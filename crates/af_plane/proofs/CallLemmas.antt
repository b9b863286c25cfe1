-- A turn leaves the state that the ledger was opened with, and how many entries it may have.
use Rattle.std.proofs.Common.{◌≡◌, inl, inr, refl, ap, ℕ, List, Bool, true, false}
use Rattle.std.specs.Prelude.{Option, Some, None}
use Rattle.af_policy.specs.Rows.{PolicyRows}
use Rattle.af_ops.specs.declared.call.Call.{Call}
use Rattle.af_ops.specs.declared.call.Call.TheVariants as call
use Rattle.af_ops.specs.declared.op.Op.{Op}
use Rattle.af_ops.specs.declared.served.Served.{Served}
use Rattle.af_ops.specs.Endpoints.{endpoint_of}
use Rattle.af_ops.specs.Table.{is_open}
use Rattle.af_audit.specs.Answered.{EntersFor, MayEnter}
use Rattle.af_audit.specs.Ledgers.{LedgerRows}
use Rattle.af_board.specs.Marks.{Site, policy_of}
use Rattle.af_plane.specs.declared.grounds.Grounds.TheVariants as grounds
use Rattle.af_plane.specs.Looks.{Basis, Missed, On, Openly, looked}
use Rattle.af_plane.specs.Planes.{Applies}
use Rattle.af_plane.specs.Requests.{RequestRows}
use Rattle.af_plane.specs.Turns.{IsActed, IsPlaced, IsTurn}
use Rattle.af_plane.specs.Visits.{PlaneRows, Visit}

-- opened with one state, and with room for as many entries
abbrev pub AreAlike : LedgerRows → LedgerRows → Type 0
AreAlike old new = (new.opening ≡ old.opening) × (new.audit.limit ≡ old.audit.limit)

same_alike : (old new : LedgerRows) → new ≡ old → AreAlike old new
same_alike old new same = (ap (λ (l : LedgerRows). l.opening) same, ap (λ (l : LedgerRows). l.audit.limit) same)

enters_alike : (who : Option (List ℕ)) (asked : Op) (t : ℕ) (old new : LedgerRows) → EntersFor who asked t old new → AreAlike old new
enters_alike None asked t old new enters = absurd enters
enters_alike (Some user) asked t old new enters = (ap (λ (l : LedgerRows). l.opening) enters.ledger, ap (λ (l : LedgerRows). l.audit.limit) enters.ledger)

may_alike : (who : Option (List ℕ)) (asked : Op) (t : ℕ) (old new : LedgerRows) → MayEnter who asked t old new → AreAlike old new
may_alike who asked t old new (inl same) = same_alike old new same
may_alike who asked t old new (inr enters) = enters_alike who asked t old new enters

applied_alike : (policy : PolicyRows) (old new : LedgerRows) (token : Option (List ℕ)) (it : Call) (t : ℕ) (gave : Served) → Applies policy old token it t (Some gave) new → AreAlike old new
applied_alike policy old new token (call.State asked) t gave is = may_alike _ asked t old new is.1
applied_alike policy old new token (call.Entries window) t gave is = same_alike old new is.1
applied_alike policy old new token (call.Policy asked) t gave is = absurd is

module _ (site : Site) (old new : PlaneRows) (was now : Visit) (gave : Served) where
  acted_alike : (asked : RequestRows) (basis : Basis) → IsActed site asked old was gave new now basis → AreAlike old.ledger new.ledger
  acted_alike asked Openly is = absurd is
  acted_alike asked Missed is = same_alike old.ledger new.ledger is.ledger
  acted_alike asked (On (grounds.Under m)) is = applied_alike (policy_of site m) (looked m.version old.ledger) new.ledger asked.token asked.call asked.at gave is.applied
  acted_alike asked (On (grounds.Made r)) is = absurd is
  acted_alike asked (On (grounds.Overtaken m)) is = absurd is
  acted_alike asked (On (grounds.Spent m pushed)) is = absurd is

  by_open : (asked : RequestRows) (op : Op) (b : Bool) (basis : Basis) → is_open (endpoint_of op) ≡ b → IsPlaced site asked old was gave new now basis (call.State op) → AreAlike old.ledger new.ledger
  by_open asked op true basis opens is = same_alike old.ledger new.ledger (ap (λ (p : PlaneRows). p.ledger) (is.1 opens).plane)
  by_open asked op false basis closed is = acted_alike asked basis (is.0 closed)

  placed_alike : (asked : RequestRows) (basis : Basis) (it : Call) → IsPlaced site asked old was gave new now basis it → AreAlike old.ledger new.ledger
  placed_alike asked basis (call.State op) is = by_open asked op (is_open (endpoint_of op)) basis refl is
  placed_alike asked basis (call.Entries window) is = acted_alike asked basis is
  placed_alike asked basis (call.Policy it) is = absurd is

pub turned_alike : (site : Site) (asked : RequestRows) (old new : PlaneRows) (was now : Visit) (gave : Option Served) → IsTurn site asked old was gave new now → AreAlike old.ledger new.ledger
turned_alike site asked old new was now (Some gave) is = placed_alike site old new was now gave asked is.0 asked.call is.1
turned_alike site asked old new was now None is = same_alike old.ledger new.ledger (ap (λ (p : PlaneRows). p.ledger) is.1)
