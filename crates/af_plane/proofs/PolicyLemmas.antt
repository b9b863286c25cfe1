-- What a session asks of the policy is a step of it, in each world over a sheet.
use Rattle.std.proofs.Common.{◌≡◌, ◌∙◌, refl, sym, ap, subst, ℕ, ◌<◌, ◌≤◌, List, [], ◌∷◌, Bool, true, false, ◌==◌, length-append, nat_lt, arith}
use Rattle.std.specs.Prelude.{Option, Some, None, Result, slice_get, if◌then◌else◌}
use Rattle.std.specs.Bool.{Decides}
use Rattle.std.proofs.lemmas.Bool.Decides.{Decides-ltb}
use Rattle.af_role.specs.declared.need.Need.{Need}
use Rattle.af_policy.specs.declared.ask.Ask.{Ask}
use Rattle.af_policy.specs.declared.ask.Ask.TheVariants.{Bad}
use Rattle.af_policy.specs.declared.bad_input.BadInput.TheVariants as input
use Rattle.af_policy.specs.declared.change_kind.ChangeKind.{ChangeKind}
use Rattle.af_policy.specs.declared.refusal.Refusal.{Refusal}
use Rattle.af_policy.specs.Changes.{needs_of}
use Rattle.af_policy.specs.Grants.{missing}
use Rattle.af_policy.specs.Identity.{bearer_of}
use Rattle.af_policy.specs.Rows.{PolicyRows}
use Rattle.af_policy.specs.Versions.{VersionRows, asked_by, decided, unless_lacked, within}
use Rattle.af_ops.specs.declared.policy_op.PolicyOp.{PolicyOp}
use Rattle.af_ops.specs.declared.policy_op.PolicyOp.TheVariants as asks
use Rattle.af_ops.specs.declared.served.Served.{Served}
use Rattle.af_ops.specs.declared.served.Served.TheVariants as served
use Rattle.af_ops.specs.declared.shown_answer.Shown.{Shown}
use Rattle.af_ops.specs.PolicyServed.{IsPolicyServed, told_of, versions_after}
use Rattle.af_ops.specs.PolicyVerdicts.{PolicyVerdict, Publishes, Refuses, Tells, change_verdict, current, policy_verdict, unread_verdict}
use Rattle.af_audit.specs.Acts.{IsState}
use Rattle.af_audit.specs.Ledgers.{LedgerRows}
use Rattle.af_world.specs.declared.session.Seen.{Seen}
use Rattle.af_world.specs.declared.step.Step.{Step}
use Rattle.af_world.specs.Moving.{Move, move_of, stays}
use Rattle.af_world.specs.Publishing.{handed_in, lost, made, overtaken, publishing, with_made}
use Rattle.af_world.specs.Steps.{Moves}
use Rattle.af_world.specs.Worlds.{World, has_session, is_held, policy_at, seen_or_nothing}
use Rattle.af_plane.specs.Sheets.{Administers, Runs, Sheet, having_seen, policy_step, sheet, world_over}
use Rattle.af_plane.proofs.SheetLemmas.{is_there, latest_got, same_number, seen_is}

-- ---- numbers

not_below : (k n : ℕ) (b : Bool) → k ≤ n → Decides b (n < k) → b ≡ false
not_below k n true le is = (let lt = is.0 refl in absurd (omega (arith, le, lt)))
not_below k n false le is = refl

-- no later version was seen than this
pub none_later : (k n : ℕ) → k ≤ n → nat_lt n k ≡ false
none_later k n le = not_below k n (nat_lt n k) le (Decides-ltb n k)

-- ---- decided under the latest version

-- no verdict leaves fewer versions
grows : (versions : VersionRows) (it : PolicyVerdict) → current versions ≤ current (versions_after it versions)
grows versions (Refuses problem) = omega arith
grows versions (Tells reply) = omega arith
grows versions (Publishes reply policy) = omega (arith, length-append versions.earlier (versions.latest ∷ []))

-- the hold of a session ends
abbrev pub freed : ℕ → Option ℕ → Option ℕ
freed session holder = if is_held holder session then None else holder

abbrev pub with_versions : Sheet → PolicyVerdict → Sheet
with_versions old it = sheet (versions_after it old.versions) old.ledger

module _ (old : Sheet) (holder : Option ℕ) (sessions : List Seen) (session : ℕ) (had : Seen) (there : slice_get sessions session ≡ Some had) (le : had.version ≤ current old.versions) where
  abbrev here : World
  here = world_over old holder sessions

  made_over : (it : PolicyVerdict) (shown : Shown) → told_of (current old.versions) it ≡ Some shown → made here session it ≡ move_of (Some shown) (world_over (with_versions old it) (freed session holder) (having_seen sessions session (with_versions old it) had.entries))
  made_over it shown told =
      ap (λ (answer : Option Shown). move_of answer (made here session it).next) told
      ∙ ap (λ (seen : List Seen). move_of (Some shown) (world_over (with_versions old it) (freed session holder) seen))
      (seen_is (with_made here it) session had (current (versions_after it old.versions)) there (omega (arith, le, grows old.versions it)))

  -- a change that is handed in under the latest version is decided there
  pub publishes : (token : Option (List ℕ)) (ask : Ask) → publishing here session (current old.versions) token (asks.Change ask) ≡ made here session (policy_verdict old.versions token (asks.Change ask))
  publishes token ask =
      let n : ℕ = current old.versions in
      ap (λ (b : Bool). if b then handed_in here session n token ask (policy_at here n) else stays here) (is_there sessions session had there)
      ∙ ap (handed_in here session n token ask) (latest_got old.versions.earlier old.versions.latest)
      ∙ ap (λ (o : Option Seen). if nat_lt n (seen_or_nothing o).version then overtaken here session ask else (if n == n then made here session (policy_verdict old.versions token (asks.Change ask)) else lost here session n ask (decided old.versions.latest token ask))) there
      ∙ ap (λ (b : Bool). if b then overtaken here session ask else (if n == n then made here session (policy_verdict old.versions token (asks.Change ask)) else lost here session n ask (decided old.versions.latest token ask))) (none_later had.version n le)
      ∙ ap (λ (b : Bool). if b then made here session (policy_verdict old.versions token (asks.Change ask)) else lost here session n ask (decided old.versions.latest token ask)) (same_number n)

-- a step that is decided so is a run
module _ (session : ℕ) (old : Sheet) (s : Step) (it : PolicyVerdict) (shown : Shown) where
  -- in each world over it the step is decided so
  abbrev pub IsMadeBy : Type 0
  IsMadeBy =
      (holder : Option ℕ) (sessions : List Seen) (had : Seen) (m : Move) → slice_get sessions session ≡ Some had → had.version ≤ current old.versions
      → m ≡ made (world_over old holder sessions) session it → Moves (world_over old holder sessions) s m

  pub made_run : IsMadeBy → told_of (current old.versions) it ≡ Some shown → IsState old.ledger.state → Runs session old (s ∷ []) (Some shown ∷ []) (with_versions old it)
  made_run fits told state holder sessions had there le =
      let next : World = world_over (with_versions old it) (freed session holder) (having_seen sessions session (with_versions old it) had.entries) in
      record {
        left = freed session holder;
        entries = had.entries;
        run = (next, state, fits holder sessions had (move_of (Some shown) next) there le (sym (made_over old holder sessions session had there le it shown told)), refl);
        all = λ e. e;
      }

-- ---- a change whose body was not read

-- where it is answered, a change whose body is none is answered so
pub record AnsweredAlike (versions : VersionRows) (ask : Ask) (shown : Shown) (comes : Result PolicyRows Refusal) : Type 0 where
  pub told : told_of (current versions) (change_verdict (current versions) ask (within versions comes)) ≡ Some shown
  pub left : versions_after (change_verdict (current versions) ask (within versions comes)) versions ≡ versions_after (unread_verdict comes) versions

module _ (versions : VersionRows) (kind : ChangeKind) (shown : Shown) where
  abbrev Alike : Result PolicyRows Refusal → Type 0
  Alike comes = told_of (current versions) (unread_verdict comes) ≡ Some shown → AnsweredAlike versions (Bad kind input.Body) shown comes

  by_need : (need : Option Need) → Alike (unless_lacked versions.latest (Bad kind input.Body) need)
  by_need (Some need) told = record { told = told; left = refl }
  by_need None told = absurd (cc)

  by_user : (user : Option (List ℕ)) → Alike (asked_by versions.latest (Bad kind input.Body) user)
  by_user None told = record { told = told; left = refl }
  by_user (Some user) told = by_need (missing versions.latest user (needs_of kind) None []) told

  pub unread_alike : (token : Option (List ℕ)) → Alike (decided versions.latest token (Bad kind input.Body))
  unread_alike token told = by_user (bearer_of versions.latest token) told

-- ---- every operation on the policy

module _ (session : ℕ) (versions : VersionRows) (ledger : LedgerRows) (token : Option (List ℕ)) (state : IsState ledger.state) where
  abbrev before : Sheet
  before = sheet versions ledger

  -- a reading of a session that is there is decided under the latest version
  read_so : (asked : PolicyOp) (holder : Option ℕ) (sessions : List Seen) (had : Seen) → slice_get sessions session ≡ Some had → made (world_over before holder sessions) session (policy_verdict versions token asked) ≡ (if has_session (world_over before holder sessions) session then made (world_over before holder sessions) session (policy_verdict versions token asked) else stays (world_over before holder sessions))
  read_so asked holder sessions had there =
      let w : World = world_over before holder sessions in
      sym (ap (λ (b : Bool). if b then made w session (policy_verdict versions token asked) else stays w) (is_there sessions session had there))

  pub told_policy : (asked : PolicyOp) (shown : Shown) → told_of (current versions) (policy_verdict versions token asked) ≡ Some shown → Runs session before (policy_step session (current versions) token asked ∷ []) (Some shown ∷ []) (with_versions before (policy_verdict versions token asked))
  told_policy asks.Me shown told =
      made_run session before (policy_step session (current versions) token asks.Me) (policy_verdict versions token asks.Me) shown
      (λ holder sessions had m there le e. e ∙ read_so asks.Me holder sessions had there) told state
  told_policy (asks.Read asked) shown told =
      made_run session before (policy_step session (current versions) token (asks.Read asked)) (policy_verdict versions token (asks.Read asked)) shown
      (λ holder sessions had m there le e. e ∙ read_so (asks.Read asked) holder sessions had there) told state
  told_policy (asks.Change ask) shown told =
      made_run session before (policy_step session (current versions) token (asks.Change ask)) (policy_verdict versions token (asks.Change ask)) shown
      (λ holder sessions had m there le e. e ∙ sym (publishes before holder sessions session had there le token ask)) told state
  told_policy (asks.Unread kind) shown told =
      let alike = unread_alike versions kind shown token told in
      let none : Ask = Bad kind input.Body in
      subst (λ (v : VersionRows). Runs session before (policy_step session (current versions) token (asks.Unread kind) ∷ []) (Some shown ∷ []) (sheet v ledger)) alike.left
      (made_run session before (policy_step session (current versions) token (asks.Unread kind)) (policy_verdict versions token (asks.Change none)) shown
      (λ holder sessions had m there le e. e ∙ sym (publishes before holder sessions session had there le token none)) alike.told state)

  pub administers : (asked : PolicyOp) (gave : Served) (left : VersionRows) → IsPolicyServed asked versions token gave left → Administers session before (current versions) token asked gave (sheet left ledger)
  administers asked (served.Shown shown) left is =
      subst (λ (v : VersionRows). Runs session before (policy_step session (current versions) token asked ∷ []) (Some shown ∷ []) (sheet v ledger)) (sym is.1) (told_policy asked shown is.0)
  administers asked served.NothingDone left is = ap (λ (v : VersionRows). sheet v ledger) is
