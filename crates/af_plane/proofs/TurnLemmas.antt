-- A turn of a session on the plane is a look and an act of it, in each world over a sheet.
use Rattle.std.proofs.Common.{◌≡◌, ◌∙◌, refl, sym, ap, subst, ℕ, ◌≤◌, ◌==◌, List, Bool, true, ◌&&◌, length}
use Rattle.std.specs.Prelude.{Option, Some, None, slice_get, slice_set, if◌then◌else◌}
use Rattle.af_policy.specs.Rows.{PolicyRows}
use Rattle.af_policy.specs.Versions.{VersionRows, all_versions}
use Rattle.af_ops.specs.declared.call.Call.{Call}
use Rattle.af_ops.specs.declared.call.Call.TheVariants as call
use Rattle.af_ops.specs.declared.served.Served.{Served}
use Rattle.af_ops.specs.declared.served.Served.TheVariants as served
use Rattle.af_ops.specs.PolicyVerdicts.{current}
use Rattle.af_audit.specs.Acts.{IsState}
use Rattle.af_audit.specs.Ledgers.{LedgerRows}
use Rattle.af_board.specs.Marks.{Marked, Site, policy_of}
use Rattle.af_world.specs.declared.session.Seen.{Seen}
use Rattle.af_world.specs.declared.step.Step.TheVariants as step
use Rattle.af_world.specs.Acting.{holds}
use Rattle.af_world.specs.Moving.{move_of, stays}
use Rattle.af_world.specs.Moving as moving
use Rattle.af_world.specs.Steps.{Moves}
use Rattle.af_world.specs.Worlds.{World, seen_or_nothing, sees_entries}
use Rattle.af_plane.specs.Alone.{IsClosed, Stands}
use Rattle.af_plane.specs.Laws.{AppliesAreActs, LooksAreLooks, TurnsLookAndAct}
use Rattle.af_plane.specs.Looks.{looked}
use Rattle.af_plane.specs.Planes.{Applies, ServesAct, over}
use Rattle.af_plane.specs.Sheets.{LooksAndActs, Sheet, having_seen, sheet, world_over}
use Rattle.af_plane.proofs.ActLemmas.{apply_is, serves_logs, serves_op}
use Rattle.af_plane.proofs.SheetLemmas.{got_set, is_there, latest_got, same_number, seen_is, set_twice}

-- ---- looks and acts by themselves

pub looks_are_looks : LooksAreLooks
looks_are_looks versions site m old stands holder sessions session there =
    let w : World = over versions old holder sessions in
    sym (ap (λ (b : Bool). if b then move_of None (moving.looked w session) else stays w) there
    ∙ ap (λ (v : ℕ). move_of None (record (moving.looked w session) { ledger = looked v old })) stands.current)

pub applies_are_acts : AppliesAreActs
applies_are_acts versions site m old new token asked t gave holds same is =
    apply_is versions old token t (policy_of site m)
    (subst (λ (v : ℕ). slice_get (all_versions versions) v ≡ Some (policy_of site m)) same holds) new asked gave is

-- ---- the look

-- the same, where acts are decided under the latest version
abbrev pub having_looked : Sheet → Sheet
having_looked old = sheet old.versions (looked (current old.versions) old.ledger)

module _ (old : Sheet) (holder : Option ℕ) (sessions : List Seen) (session : ℕ) (had : Seen) (there : slice_get sessions session ≡ Some had) where
  -- what the sessions have seen after it
  abbrev pub then_seen : List Seen
  then_seen = having_seen sessions session old had.entries

  pub look_moves : had.version ≤ current old.versions → Moves (world_over old holder sessions) (step.Look session) (move_of None (world_over (having_looked old) (Some session) then_seen))
  look_moves le =
      let w : World = world_over old holder sessions in
      sym (ap (λ (b : Bool). if b then move_of None (moving.looked w session) else stays w) (is_there sessions session had there)
      ∙ ap (λ (seen : List Seen). move_of None (world_over (having_looked old) (Some session) seen)) (seen_is w session had (current old.versions) there le))

  -- the session is there, and holds the plane
  abbrev latest_seen : Seen
  latest_seen = record { version = current old.versions; entries = had.entries }

  got_latest : slice_get then_seen session ≡ Some latest_seen
  got_latest = got_set sessions session latest_seen had there

  pub then_holds : (ledger : LedgerRows) → holds (over old.versions ledger (Some session) then_seen) session ≡ true
  then_holds ledger =
      ap (λ (b : Bool). b && (session == session)) (is_there then_seen session latest_seen got_latest) ∙ same_number session

  -- it acts, and has then seen all entries
  pub then_sees : (new : LedgerRows) → sees_entries (over old.versions new None then_seen) session ≡ world_over (sheet old.versions new) None (having_seen sessions session (sheet old.versions new) (length new.audit.entries))
  then_sees new =
      let all : Seen = record { version = current old.versions; entries = length new.audit.entries } in
      ap (λ (o : Option Seen). over old.versions new None (slice_set then_seen session (record { version = (seen_or_nothing o).version; entries = length new.audit.entries }))) got_latest
      ∙ ap (over old.versions new None) (set_twice sessions session latest_seen all)

-- ---- a look and an act

module _ (session : ℕ) (versions : VersionRows) (ledger : LedgerRows) (token : Option (List ℕ)) (asked : Call) (t : ℕ) (state : IsState ledger.state) where
  abbrev before : Sheet
  before = sheet versions ledger

  -- the policy of the version that was looked at
  known : slice_get (all_versions versions) (looked (current versions) ledger).version ≡ Some versions.latest
  known = latest_got versions.earlier versions.latest

  run_of : (new : LedgerRows) (gave : Served) → IsState new.state → ServesAct versions (looked (current versions) ledger) token asked t gave new → LooksAndActs session before token asked t gave (sheet versions new)
  run_of new (served.Shown shown) left acts = λ holder sessions had there le.
      let seen : List Seen = then_seen before holder sessions session had there in
      let last : World = world_over (sheet versions new) None (having_seen sessions session (sheet versions new) (length new.audit.entries)) in
      let acted = acts (Some session) seen session (then_holds before holder sessions session had there (looked (current versions) ledger)) in
      record {
        left = None;
        entries = length new.audit.entries;
        run = (
          world_over (having_looked before) (Some session) seen,
          state,
          look_moves before holder sessions session had there le,
          (
            last,
            left,
            subst (λ (w : World). Moves (over versions (looked (current versions) ledger) (Some session) seen) (step.Act session token asked t) (move_of (Some shown) w)) (then_sees before holder sessions session had there new) acted,
            refl,
          ),
        );
        all = λ e. refl;
      }
  run_of new served.NothingDone left same = λ holder sessions had there le.
      let seen : List Seen = then_seen before holder sessions session had there in
      record {
        left = Some session;
        entries = had.entries;
        run = (
          world_over (having_looked before) (Some session) seen,
          state,
          look_moves before holder sessions session had there le,
          ap (λ (l : LedgerRows). world_over (sheet versions l) (Some session) seen) same,
        );
        all = λ e. e ∙ sym (ap (λ (l : LedgerRows). length l.audit.entries) same);
      }

module _ (session : ℕ) (versions : VersionRows) (ledger : LedgerRows) (token : Option (List ℕ)) (t : ℕ) (state : IsState ledger.state) where
  -- the act, under the latest version
  serves : (asked : Call) (new : LedgerRows) (gave : Served) → IsClosed asked → Applies versions.latest (looked (current versions) ledger) token asked t (Some gave) new → ServesAct versions (looked (current versions) ledger) token asked t gave new
  serves (call.State op) new gave closed is =
      serves_op versions (looked (current versions) ledger) token t versions.latest (known session versions ledger token (call.State op) t state) new op gave closed is.0 is.1
  serves (call.Entries window) new gave closed is =
      serves_logs versions (looked (current versions) ledger) token t versions.latest (known session versions ledger token (call.Entries window) t state) new window gave is.0 is.1
  serves (call.Policy asked) new gave closed is = absurd closed

  -- under the mark of the latest version
  abbrev Under : Call → LedgerRows → Served → PolicyRows → ℕ → Type 0
  Under asked new gave policy version = Applies policy (looked version ledger) token asked t (Some gave) new

  pub looks_and_acts : (asked : Call) (new : LedgerRows) (gave : Served) (site : Site) (m : Marked) → IsState new.state → IsClosed asked → Stands versions site m → Applies (policy_of site m) (looked m.version ledger) token asked t (Some gave) new → LooksAndActs session (sheet versions ledger) token asked t gave (sheet versions new)
  looks_and_acts asked new gave site m left closed stands is =
      let here : Applies versions.latest (looked (current versions) ledger) token asked t (Some gave) new =
      subst (λ (p : PolicyRows). Under asked new gave p (current versions)) (sym stands.latest)
      (subst (λ (v : ℕ). Under asked new gave (policy_of site m) v) (sym stands.current) is) in
      run_of session versions ledger token asked t state new gave left (serves asked new gave closed here)

pub turns_look_and_act : TurnsLookAndAct
turns_look_and_act session versions site m asked old new gave was now state left closed stands is =
    looks_and_acts session versions old.ledger asked.token asked.at state asked.call new.ledger gave site m left closed stands is.applied
