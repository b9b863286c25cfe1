-- An operation on the policy that a session decided on the board is a step of it, in each world over a sheet.
use Rattle.std.proofs.Common.{◌≡◌, ◌∙◌, refl, sym, ap, subst, ℕ, ◌<◌, ◌≤◌, ◌+◌, List, [], Bool, true, false, ◌==◌, length, nat_lt, arith}
use Rattle.std.specs.Prelude.{Option, Some, None, Result, Ok, Err, IsOk, slice_get, if◌then◌else◌}
use Rattle.std.specs.Bool.{Decides}
use Rattle.std.proofs.lemmas.Bool.{lt-leb}
use Rattle.std.proofs.lemmas.Bool.Decides.{Decides-eqb}
use Rattle.af_policy.specs.declared.ask.Ask.{Ask}
use Rattle.af_policy.specs.declared.ask.Ask.TheVariants as ask
use Rattle.af_policy.specs.declared.change.Change.{Change}
use Rattle.af_policy.specs.declared.change_fault.ChangeFault.{ChangeFault}
use Rattle.af_policy.specs.declared.refusal.Refusal.{Refusal}
use Rattle.af_policy.specs.declared.refusal.Refusal.TheVariants as fault
use Rattle.af_policy.specs.Changes.{changed, kind_of, needs_of}
use Rattle.af_policy.specs.Grants.{missing}
use Rattle.af_policy.specs.Identity.{bearer_of}
use Rattle.af_policy.specs.Rows.{PolicyRows}
use Rattle.af_policy.specs.Versions.{VersionRows, all_versions, asked_by, decided, made_or_refused, unless_lacked, with_version, within}
use Rattle.af_ops.specs.declared.policy_op.PolicyOp.{PolicyOp}
use Rattle.af_ops.specs.declared.policy_op.PolicyOp.TheVariants as asks
use Rattle.af_ops.specs.declared.served.Served.{Served}
use Rattle.af_ops.specs.declared.served.Served.TheVariants as served
use Rattle.af_ops.specs.declared.shown_answer.Shown.{Shown}
use Rattle.af_ops.specs.PolicyFaults.{submit_problem}
use Rattle.af_ops.specs.PolicyServed.{IsPolicyServed, reply_at, told_of, versions_after}
use Rattle.af_ops.specs.PolicyTexts.{change_text}
use Rattle.af_ops.specs.PolicyUnder.{IsTold, IsToldUnder, verdict_under}
use Rattle.af_ops.specs.PolicyVerdicts.{PolicyVerdict, Publishes, Refuses, Tells, change_verdict, current, policy_verdict}
use Rattle.af_ops.proofs.PolicyUnderLemmas.{under_the_latest}
use Rattle.af_audit.specs.Acts.{IsState}
use Rattle.af_audit.specs.Ledgers.{LedgerRows}
use Rattle.af_board.specs.Drafted.{Received}
use Rattle.af_board.specs.Marks.{Marked, Site, policy_of}
use Rattle.af_world.specs.declared.session.Seen.{Seen}
use Rattle.af_world.specs.Moving.{move_of, stays}
use Rattle.af_world.specs.Publishing.{handed_in, lost, made, overtaken, publishing}
use Rattle.af_world.specs.Worlds.{World, policy_at, seen_by}
use Rattle.af_plane.specs.Administered.{IsMade, IsOvertaken}
use Rattle.af_plane.specs.Alone.{Holds, Stands}
use Rattle.af_plane.specs.Laws.{ChangesAreSteps, ReadingsAreSteps}
use Rattle.af_plane.specs.Sheets.{Administers, Sheet, having_seen, sheet, world_over}
use Rattle.af_plane.specs.Visits.{Visit}
use Rattle.af_plane.proofs.PolicyLemmas.{administers, freed}
use Rattle.af_plane.proofs.SheetLemmas.{is_there, seen_is}

-- ---- what makes no version

-- it is told, and leaves the versions
pub record LeavesThem (version : ℕ) (it : PolicyVerdict) (shown : Shown) (versions : VersionRows) : Type 0 where
  pub told : told_of version it ≡ Some shown
  pub left : versions ≡ versions_after it versions

told_leaves : (version : ℕ) (it : PolicyVerdict) (shown : Shown) (versions : VersionRows) → IsTold version it shown → LeavesThem version it shown versions
told_leaves version (Refuses problem) shown versions is = record { told = is; left = refl }
told_leaves version (Tells reply) shown versions is = record { told = is; left = refl }
told_leaves version (Publishes reply policy) shown versions is = absurd is

module _ (versions : VersionRows) (site : Site) (m : Marked) (token : Option (List ℕ)) (asked : PolicyOp) (stands : Stands versions site m) where
  abbrev Under : Shown → ℕ → ℕ → PolicyRows → Type 0
  Under shown version last policy = IsTold version (verdict_under version last policy token asked) shown

  told_there : (shown : Shown) → Under shown m.version site.word.last (policy_of site m) → IsTold (current versions) (policy_verdict versions token asked) shown
  told_there shown is =
      let one : Under shown (current versions) site.word.last (policy_of site m) = subst (λ (v : ℕ). Under shown v site.word.last (policy_of site m)) (sym stands.current) is in
      let two : Under shown (current versions) versions.last (policy_of site m) = subst (λ (n : ℕ). Under shown (current versions) n (policy_of site m)) (sym stands.last) one in
      let three : Under shown (current versions) versions.last versions.latest = subst (λ (p : PolicyRows). Under shown (current versions) versions.last p) (sym stands.latest) two in
      subst (λ (it : PolicyVerdict). IsTold (current versions) it shown) (sym (under_the_latest versions token asked)) three

  pub served_there : (gave : Served) → IsToldUnder m.version (verdict_under m.version site.word.last (policy_of site m) token asked) gave → IsPolicyServed asked versions token gave versions
  served_there (served.Shown shown) is =
      let leaves = told_leaves (current versions) (policy_verdict versions token asked) shown versions (told_there shown is) in (leaves.told, leaves.left)
  served_there served.NothingDone is = refl

pub readings_are_steps : ReadingsAreSteps
readings_are_steps session versions site m ledger token asked gave now state stands is =
    subst (λ (v : ℕ). Administers session (sheet versions ledger) v token asked gave (sheet versions ledger)) stands.current
    (administers session versions ledger token state asked gave versions (served_there versions site m token asked stands gave is.told))

-- ---- what makes a version

-- an author who lacks nothing for a change makes it
module _ (policy later : PolicyRows) (change : Change) where
  made_ok : (comes : Result PolicyRows ChangeFault) → comes ≡ Ok later → made_or_refused comes ≡ Ok later
  made_ok (Ok it) is = cc is
  made_ok (Err why) is = absurd (cc)

  pub decided_ok : (token : Option (List ℕ)) (author : List ℕ) → bearer_of policy token ≡ Some author → missing policy author (needs_of (kind_of change)) None [] ≡ None → changed policy change ≡ Ok later → decided policy token (ask.Made change) ≡ Ok later
  decided_ok token author known lacks makes =
      ap (asked_by policy (ask.Made change)) known
      ∙ ap (unless_lacked policy (ask.Made change)) lacks
      ∙ made_ok (changed policy change) makes

within_room : (versions : VersionRows) (later : PolicyRows) (comes : Result PolicyRows Refusal) → current versions < versions.last → comes ≡ Ok later → within versions comes ≡ Ok later
within_room versions later comes room is =
    ap (within versions) is
    ∙ ap (λ (b : Bool). if b then Err fault.Full else Ok later) (lt-leb versions.last (current versions) room)

module _ (versions : VersionRows) (site : Site) (r : Received) (stands : Stands versions site r.base) where
  made_there : (token : Option (List ℕ)) (asked : PolicyOp) (gave : Served) (now : Visit) → IsMade site token asked gave now r → IsPolicyServed asked versions token gave (with_version versions (policy_of site r.mark))
  made_there token asked gave now is =
      let later : PolicyRows = policy_of site r.mark in
      let change : PolicyOp = asks.Change (ask.Made r.change) in
      let under : decided versions.latest token (ask.Made r.change) ≡ Ok later =
      ap (λ (p : PolicyRows). decided p token (ask.Made r.change)) stands.latest
      ∙ decided_ok (policy_of site r.base) later r.change token r.author is.author is.receipt.lacks_nothing is.receipt.made in
      let room : current versions < versions.last = omega (arith, stands.current, stands.last, is.room) in
      let number : r.mark.version ≡ current versions + 1 = omega (arith, stands.current, is.receipt.version) in
      let verdict : policy_verdict versions token change ≡ Publishes (change_text (current versions + 1) later r.change) later =
      ap (change_verdict (current versions) (ask.Made r.change)) (within_room versions later (decided versions.latest token (ask.Made r.change)) room under) in
      let shown : Shown = reply_at (current versions + 1) (change_text (current versions + 1) later r.change) in
      let told : gave ≡ served.Shown shown = is.told ∙ ap (λ (v : ℕ). served.Shown (reply_at v (change_text v later r.change))) number in
      subst (λ (op : PolicyOp). IsPolicyServed op versions token gave (with_version versions later)) (sym is.is_asked)
      (subst (λ (g : Served). IsPolicyServed change versions token g (with_version versions later)) (sym told)
      (ap (told_of (current versions)) verdict, ap (λ (it : PolicyVerdict). versions_after it versions) (sym verdict)))

pub changes_are_steps : ChangesAreSteps
changes_are_steps session versions site r ledger token asked gave now state stands is =
    subst (λ (v : ℕ). Administers session (sheet versions ledger) v token asked gave (sheet (with_version versions (policy_of site r.mark)) ledger)) stands.current
    (administers session versions ledger token state asked gave (with_version versions (policy_of site r.mark)) (made_there versions site r stands token asked gave now is))

-- ---- what was overtaken

not_same : (n last : ℕ) (b : Bool) → n < last → Decides b (n ≡ last) → b ≡ false
not_same n last true lt is = (let same = is.0 refl in absurd (omega (arith, lt, same)))
not_same n last false lt is = refl

module _ (session : ℕ) (old : Sheet) (at : ℕ) (token : Option (List ℕ)) (change : Ask) (policy : PolicyRows) (known : slice_get (all_versions old.versions) at ≡ Some policy) (lt : at < current old.versions) (is : IsOk (decided policy token change)) where
  lost_so : (w : World) (comes : Result PolicyRows Refusal) → IsOk comes → lost w session at change comes ≡ overtaken w session change
  lost_so w (Ok later) is = refl
  lost_so w (Err why) is = absurd (cc)

  -- whether or not the session has seen a later version
  by_seen : (w : World) (b : Bool) → (if b then overtaken w session change else (if at == current old.versions then made w session (policy_verdict old.versions token (asks.Change change)) else lost w session at change (decided policy token change))) ≡ overtaken w session change
  by_seen w true = refl
  by_seen w false =
      ap (λ (b : Bool). if b then made w session (policy_verdict old.versions token (asks.Change change)) else lost w session at change (decided policy token change)) (not_same at (current old.versions) (at == current old.versions) lt (Decides-eqb at (current old.versions)))
      ∙ lost_so w (decided policy token change) is

  pub is_lost : (holder : Option ℕ) (sessions : List Seen) (had : Seen) → slice_get sessions session ≡ Some had → publishing (world_over old holder sessions) session at token (asks.Change change) ≡ overtaken (world_over old holder sessions) session change
  is_lost holder sessions had there =
      let w : World = world_over old holder sessions in
      ap (λ (b : Bool). if b then handed_in w session at token change (policy_at w at) else stays w) (is_there sessions session had there)
      ∙ ap (handed_in w session at token change) known ∙ by_seen w (nat_lt at (seen_by w session).version)

overtaken_moves : (session : ℕ) (old : Sheet) (holder : Option ℕ) (sessions : List Seen) (had : Seen) (change : Ask) (shown : Shown) → slice_get sessions session ≡ Some had → had.version ≤ current old.versions → told_of (current old.versions) (Refuses (submit_problem change (fault.Moved (current old.versions)))) ≡ Some shown → overtaken (world_over old holder sessions) session change ≡ move_of (Some shown) (world_over old (freed session holder) (having_seen sessions session old had.entries))
overtaken_moves session old holder sessions had change shown there le told =
    let w : World = world_over old holder sessions in
    ap (λ (answer : Option Shown). move_of answer (overtaken w session change).next) told
    ∙ ap (λ (seen : List Seen). move_of (Some shown) (world_over old (freed session holder) seen)) (seen_is w session had (current old.versions) there le)

-- a change that was overtaken is a step over a list that has the version decided under, and ends with the last one seen
module _ (session : ℕ) (versions : VersionRows) (site : Site) (m : Marked) (ledger : LedgerRows) (token : Option (List ℕ)) (now : Visit) (state : IsState ledger.state) (holds : Holds versions site m) (ends : length now.pass.places ≡ length versions.earlier + 1) where
  abbrev before : Sheet
  before = sheet versions ledger

  abbrev Lost : PolicyOp → Served → Type 0
  Lost asked gave = Administers session before m.version token asked gave before

  lost_is : (change : Ask) (gave : Served) (version : ℕ) → m.version + 1 < length now.pass.places → IsOk (decided (policy_of site m) token change) → length now.pass.places ≡ version + 1 → IsToldUnder version (Refuses (submit_problem change (fault.Moved version))) gave → Lost (asks.Change change) gave
  lost_is change (served.Shown shown) version later permitted is_last told = λ holder sessions had there le.
      let number : version ≡ current versions = omega (arith, ends, is_last) in
      let lt : m.version < current versions = omega (arith, ends, later) in
      let is : told_of (current versions) (Refuses (submit_problem change (fault.Moved (current versions)))) ≡ Some shown =
      subst (λ (v : ℕ). told_of v (Refuses (submit_problem change (fault.Moved v))) ≡ Some shown) number told in
      let next : World = world_over before (freed session holder) (having_seen sessions session before had.entries) in
      record {
        left = freed session holder;
        entries = had.entries;
        run = (
          next,
          state,
          sym (is_lost session before m.version token change (policy_of site m) holds lt permitted holder sessions had there
              ∙ overtaken_moves session before holder sessions had change shown there le is),
          refl,
        );
        all = λ e. e;
      }
  lost_is change served.NothingDone version later permitted is_last told = refl

  pub overtaken_is : (asked : PolicyOp) (gave : Served) → IsOvertaken site token asked gave now m → Lost asked gave
  overtaken_is asked gave is =
      subst (λ (op : PolicyOp). Lost op gave) (sym is.is_asked) (lost_is is.change gave is.version is.later is.permitted is.is_last is.told)
