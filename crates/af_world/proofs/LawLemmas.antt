-- The laws of runs: one induction, and what every world of a run meets.
use Rattle.std.proofs.Common.{◌≡◌, refl, sym, subst, ℕ, zero, suc, ◌+◌, ◌≤◌, List, [], ◌∷◌, ◌++◌, replicate, arith}
use Rattle.std.specs.Prelude.{Option, Some, slice_get}
use Rattle.std.proofs.lemmas.Option.{slice_get_within}
use Rattle.af_policy.specs.Rows.{PolicyRows}
use Rattle.af_policy.specs.Versions.{all_versions}
use Rattle.af_sched.specs.State.{StateRows}
use Rattle.af_ops.specs.declared.shown_answer.Shown.{Shown}
use Rattle.af_audit.specs.Acts.{IsState}
use Rattle.af_audit.specs.Entries.{IsReplay}
use Rattle.af_audit.specs.Ledgers.{Climb, versions_of}
use Rattle.af_world.specs.declared.step.Step.{Step}
use Rattle.af_world.specs.Granted.{AreGranted}
use Rattle.af_world.specs.Laws.{AnsweredAsSeen, AnsweredVersionsClimb, EntriesAreGranted, EntryVersionsClimb, IsAsSeen, SightsNeverFall, StateIsTheReplay, VersionsFollow}
use Rattle.af_world.specs.Runs.{IsRun, told, told_by}
use Rattle.af_world.specs.Moving.{move_of}
use Rattle.af_world.specs.Worlds.{OpeningRows, World, nothing_seen, opening_world}
use Rattle.af_world.proofs.KeptLemmas.{goes}
use Rattle.af_world.proofs.WorldLemmas.{IsWorld}
use Rattle.af_world.proofs.SeenLemmas.{seen}

-- ---- the one induction

run_kept : (opening : StateRows) (w last : World) (steps : List Step) (answers : List (Option Shown)) → IsWorld opening w → IsRun w steps answers last → IsWorld opening last
run_kept opening w last [] [] kept run = subst (IsWorld opening) (sym run) kept
run_kept opening w last [] (a ∷ answers) kept run = absurd run
run_kept opening w last (s ∷ steps) [] kept run = absurd run
run_kept opening w last (s ∷ steps) (a ∷ answers) kept run =
    run_kept opening run.0 last steps answers (goes opening w s (move_of a run.0) kept run.2 run.1).kept run.3

seen_nothing : (n t : ℕ) → seen (replicate n nothing_seen) t ≡ 0
seen_nothing zero t = refl
seen_nothing (suc n) zero = refl
seen_nothing (suc n) (suc t) = seen_nothing n t

one_alone : {P : Type 0} (policy : PolicyRows) (k : ℕ) (q : PolicyRows) → slice_get (policy ∷ []) (k + 1) ≡ Some q → P
one_alone policy k q f = let lt = slice_get_within (policy ∷ []) (k + 1) q f in absurd (omega arith)

opening_is : (opening : OpeningRows) → IsState opening.state → IsWorld opening.state (opening_world opening)
opening_is opening state = record {
  opens = refl;
  plane = omega arith;
  sights = λ t. (let e = seen_nothing opening.sessions t in omega arith);
  held = λ t h. absurd (cc);
  ledger = record { opens = state; replays = refl; audit = record { numbered = refl; within = omega arith }; acted = λ k d lt. absurd (omega (arith, lt)); climbs = (omega arith, tt) };
  state = state;
  granted = refl;
  follow = λ k p q e f. one_alone opening.policy k q f;
}

module _ (opening : OpeningRows) (steps : List Step) (answers : List (Option Shown)) (w : World) (state : IsState opening.state) (run : IsRun (opening_world opening) steps answers w) where
  reached : IsWorld opening.state w
  reached = run_kept opening.state (opening_world opening) w steps answers (opening_is opening state) run

-- ---- what every world of a run meets

pub entries_granted : EntriesAreGranted
entries_granted opening steps answers w run =
    let is = reached opening steps answers w run.0 run.1 in
    subst (λ (s : StateRows). AreGranted (all_versions w.versions) s w.ledger.audit.entries w.ledger.state) is.opens is.granted

pub state_replays : StateIsTheReplay
state_replays opening steps answers w run =
    let is = reached opening steps answers w run.0 run.1 in
    subst (λ (s : StateRows). IsReplay s w.ledger.audit.entries w.ledger.state) is.opens is.ledger.replays

climb_front : (low : ℕ) (ns : List ℕ) (m : ℕ) → Climb low (ns ++ m ∷ []) → Climb low ns
climb_front low [] m c = tt
climb_front low (n ∷ ns) m c = (c.0, climb_front n ns m c.1)

pub entry_versions : EntryVersionsClimb
entry_versions opening steps answers w run =
    let is = reached opening steps answers w run.0 run.1 in
    climb_front 0 (versions_of w.ledger.audit.entries) w.ledger.version is.ledger.climbs

pub versions_followed : VersionsFollow
versions_followed opening steps answers w run = (reached opening steps answers w run.0 run.1).follow

-- ---- what sessions are told

climb_lower : (low m : ℕ) (ns : List ℕ) → low ≤ m → Climb m ns → Climb low ns
climb_lower low m [] le c = tt
climb_lower low m (n ∷ ns) le c = (omega (arith, c.0), c.1)

climb_join : (low : ℕ) (ns : List ℕ) (m : ℕ) (ms : List ℕ) → Climb low (ns ++ m ∷ []) → Climb m ms → Climb low (ns ++ ms)
climb_join low [] m ms c d = climb_lower low m ms c.0 d
climb_join low (n ∷ ns) m ms c d = (c.0, climb_join n ns m ms c.1 d)

told_climb : (opening : StateRows) (w last : World) (steps : List Step) (answers : List (Option Shown)) (t : ℕ) → IsWorld opening w → IsRun w steps answers last → Climb (seen w.sessions t) (told t steps answers)
told_climb opening w last [] answers t kept run = tt
told_climb opening w last (s ∷ steps) [] t kept run = tt
told_climb opening w last (s ∷ steps) (a ∷ answers) t kept run =
    let here = goes opening w s (move_of a run.0) kept run.2 run.1 in
    climb_join (seen w.sessions t) (told_by t s a) (seen run.0.sessions t) (told t steps answers) (here.climbs t)
    (told_climb opening run.0 last steps answers t here.kept run.3)

pub answered_versions : AnsweredVersionsClimb
answered_versions opening steps answers w session run =
    climb_lower 0 (seen (opening_world opening).sessions session) (told session steps answers) (omega arith)
    (told_climb opening.state (opening_world opening) w steps answers session (opening_is opening run.0) run.1)

-- ---- the step after a run

pub answered_as_seen : AnsweredAsSeen
answered_as_seen opening steps answers w next s session shown run one of =
    let is = reached opening steps answers w run.0 run.1 in
    subst (IsAsSeen w s session shown) (sym one.3) ((goes opening.state w s (move_of (Some shown) one.0) is one.2 one.1).as_seen session shown refl of)

-- the last of numbers that never fall is not below the first
climb_last : (low : ℕ) (ns : List ℕ) (m : ℕ) → Climb low (ns ++ m ∷ []) → low ≤ m
climb_last low [] m c = c.0
climb_last low (n ∷ ns) m c = (let rest = climb_last n ns m c.1 in omega (arith, c.0))

pub sights_grow : SightsNeverFall
sights_grow opening steps answers w next s answer session run one =
    let is = reached opening steps answers w run.0 run.1 in
    subst (λ (last : World). seen w.sessions session ≤ seen last.sessions session) (sym one.3)
    (climb_last (seen w.sessions session) (told_by session s answer) (seen one.0.sessions session) ((goes opening.state w s (move_of answer one.0) is one.2 one.1).climbs session))
