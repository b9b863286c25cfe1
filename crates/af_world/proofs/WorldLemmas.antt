-- What every world of a run meets, and what every step keeps and tells.
use Rattle.std.proofs.Common.{◌≡◌, ◌∙◌, refl, sym, subst, ℕ, ◌≤◌, List, [], ◌∷◌, ◌++◌, Bool, true, false, not, cond, ◌&&◌, arith}
use Rattle.std.specs.Prelude.{Some, None}
use Rattle.af_policy.specs.Rows.{PolicyRows}
use Rattle.af_policy.specs.Versions.{all_versions}
use Rattle.af_sched.specs.State.{StateRows}
use Rattle.af_ops.specs.declared.shown_answer.Shown.{Shown}
use Rattle.af_audit.specs.declared.act.Act.{Act}
use Rattle.af_audit.specs.declared.actor.Actor.{Actor}
use Rattle.af_audit.specs.Acts.{IsAfter, IsState, is_by}
use Rattle.af_audit.specs.Entries.{has_room}
use Rattle.af_audit.specs.Ledgers.{Climb, IsLedger, LedgerRows, entered, entry_of}
use Rattle.af_audit.proofs.LedgerLemmas.{ledger_grown}
use Rattle.af_world.specs.declared.step.Step.{Step}
use Rattle.af_world.specs.Granted.{AreGranted, IsGranted}
use Rattle.af_world.specs.Laws.{FollowEachOther, IsAsSeen}
use Rattle.af_world.specs.Runs.{session_of, told_by}
use Rattle.af_world.specs.Moving.{Move, stays}
use Rattle.af_world.specs.Worlds.{World, is_held, last_version}
use Rattle.af_world.proofs.GrantedLemmas.{granted_entered}
use Rattle.af_world.proofs.SeenLemmas.{seen}

pub record IsWorld (opening : StateRows) (w : World) : Type 0 where
  pub opens : w.ledger.opening ≡ opening
  pub plane : w.ledger.version ≤ last_version w
  pub sights : (t : ℕ) → seen w.sessions t ≤ last_version w
  -- who holds the plane has seen its version, and no later one
  pub held : (t : ℕ) → is_held w.holder t ≡ true → seen w.sessions t ≡ w.ledger.version
  pub ledger : IsLedger w.ledger
  pub state : IsState w.ledger.state
  pub granted : AreGranted (all_versions w.versions) w.ledger.opening w.ledger.audit.entries w.ledger.state
  pub follow : FollowEachOther (all_versions w.versions)

-- a choice, each side with what the test told
pub either : {X : Type 0} (P : X → Type 0) (b : Bool) (x y : X) → (b ≡ true → P x) → (b ≡ false → P y) → P (cond b x y)
either P true x y f g = f refl
either P false x y f g = g refl

pub both_true : (a b : Bool) → (a && b) ≡ true → (a ≡ true) × (b ≡ true)
both_true true b e = (refl, e)
both_true false b e = absurd (cc)

pub is_closed : (is_open : Bool) → not is_open ≡ true → is_open ≡ false
is_closed true e = absurd (cc)
is_closed false e = refl

-- ---- ledgers

-- a ledger that may stand in the place of another
pub record Keeps (policies : List PolicyRows) (old new : LedgerRows) : Type 0 where
  pub opens : new.opening ≡ old.opening
  pub version : new.version ≡ old.version
  pub ledger : IsLedger new
  pub granted : AreGranted policies new.opening new.audit.entries new.state

module _ (policies : List PolicyRows) (ledger : LedgerRows) (is : IsLedger ledger) (granted : AreGranted policies ledger.opening ledger.audit.entries ledger.state) where
  pub keeps_same : (new : LedgerRows) → new ≡ ledger → Keeps policies ledger new
  keeps_same new same = subst (Keeps policies ledger) (sym same) (record { opens = refl; version = refl; ledger = is; granted = granted })

  -- one more entry, granted, and the state that it makes
  pub keeps_entered : (who : Actor) (it : Act) (t : ℕ) (next : StateRows) → has_room ledger.audit ≡ true → is_by who it ≡ true → IsState next → IsAfter it t ledger.state next → IsGranted policies ledger.state ledger.version who it → Keeps policies ledger (entered ledger who it t next)
  keeps_entered who it t next room by state after here = record {
    opens = refl;
    version = refl;
    ledger = ledger_grown ledger who it t next is room by state after;
    granted = granted_entered policies ledger.audit.entries (entry_of ledger who it t) ledger.opening ledger.state next granted state after here;
  }

module _ (opening : StateRows) where
  -- what a step keeps; that what it tells a session lies between what that had seen and has seen; and as of what it is told
  pub record Goes (w : World) (s : Step) (m : Move) : Type 0 where
    pub kept : IsWorld opening m.next
    pub climbs : (t : ℕ) → Climb (seen w.sessions t) (told_by t s m.answer ++ seen m.next.sessions t ∷ [])
    pub as_seen : (t : ℕ) (shown : Shown) → m.answer ≡ Some shown → session_of s ≡ Some t → IsAsSeen w s t shown m.next

  -- where the state that is left is a state
  abbrev pub GoesOn : World → Step → Move → Type 0
  GoesOn w s m = IsState m.next.ledger.state → Goes w s m

  pub goes_nowhere : (w : World) (s : Step) → IsWorld opening w → Goes w s (stays w)
  goes_nowhere w s kept = record { kept = kept; climbs = λ t. (omega arith, tt); as_seen = λ t shown e of. absurd (cc) }

  -- another ledger, nobody holding
  pub kept_ledger : (w : World) (ledger : LedgerRows) → IsWorld opening w → Keeps (all_versions w.versions) w.ledger ledger → IsState ledger.state → IsWorld opening (record w { ledger = ledger; holder = None })
  kept_ledger w ledger kept keeps state = record {
    opens = keeps.opens ∙ kept.opens;
    plane = (let p = kept.plane in let v = keeps.version in omega arith);
    sights = kept.sights;
    held = λ t h. absurd (cc);
    ledger = keeps.ledger;
    state = state;
    granted = keeps.granted;
    follow = kept.follow;
  }
