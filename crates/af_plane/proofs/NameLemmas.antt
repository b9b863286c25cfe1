-- The version that an answer names is the last that the session has seen, so those of its answers never fall.
use Rattle.std.proofs.Common.{◌≡◌, ◌⊎◌, ◌∙◌, inl, inr, refl, sym, ap, subst, ℕ, ◌≤◌, ◌+◌, List, [], ◌∷◌, ◌++◌, Bool, true, false, length, arith}
use Rattle.std.specs.Prelude.{Option, Some, None, IfSome, option_map, option_to_list}
use Rattle.af_prefixes.proofs.PrefixLemmas.{prefix_length}
use Rattle.af_policy.specs.declared.refusal.Refusal.TheVariants as fault
use Rattle.af_policy.specs.Rows.{PolicyRows}
use Rattle.af_ops.specs.declared.answer.CallFault.TheVariants as cause
use Rattle.af_ops.specs.declared.answer.Under.{Under}
use Rattle.af_ops.specs.declared.call.Call.{Call}
use Rattle.af_ops.specs.declared.call.Call.TheVariants as call
use Rattle.af_ops.specs.declared.op.Op.{Op}
use Rattle.af_ops.specs.declared.op.Op.TheVariants as op
use Rattle.af_ops.specs.declared.pool_op.PoolOp.{PoolOp}
use Rattle.af_ops.specs.declared.pool_op.PoolOp.TheVariants as pool
use Rattle.af_ops.specs.declared.policy_op.PolicyOp.{PolicyOp}
use Rattle.af_ops.specs.declared.served.Served.{Served}
use Rattle.af_ops.specs.declared.served.Served.TheVariants as served
use Rattle.af_ops.specs.declared.shown_answer.Shown.{Shown}
use Rattle.af_ops.specs.declared.variable_op.VariableOp.{VariableOp}
use Rattle.af_ops.specs.declared.variable_op.VariableOp.TheVariants as variable
use Rattle.af_ops.specs.Effects.{effect_of, nothing_readable}
use Rattle.af_ops.specs.Endpoints.{endpoint_of}
use Rattle.af_ops.specs.Faults.{problem_of}
use Rattle.af_ops.specs.PolicyFaults.{no_policy, submit_problem}
use Rattle.af_ops.specs.PolicyServed.{problem_at}
use Rattle.af_ops.specs.PolicyUnder.{IsNoPolicyTold, IsTold, openly_problem}
use Rattle.af_ops.specs.PolicyVerdicts as policy
use Rattle.af_ops.specs.PolicyVerdicts.{PolicyVerdict}
use Rattle.af_ops.specs.Rows.{Problem}
use Rattle.af_ops.specs.Served.{answer_of, problem_told}
use Rattle.af_ops.specs.Table.{is_open}
use Rattle.af_ops.specs.Verdicts.{Verdict, Open, Stranger, Lacks, Refuses, Tells, Changes, opened}
use Rattle.af_audit.specs.Answered.{standing_of}
use Rattle.af_audit.specs.EventLogs.{nameless}
use Rattle.af_audit.specs.Ledgers.{Climb, LedgerRows}
use Rattle.af_board.specs.Marks.{Site, policy_of}
use Rattle.af_plane.specs.declared.grounds.Grounds.{Grounds}
use Rattle.af_plane.specs.declared.grounds.Grounds.TheVariants as grounds
use Rattle.af_plane.specs.Administered.{HasAsked, IsAdministered, IsGiven}
use Rattle.af_plane.specs.Events.{AreAnswered, Exchange, named_by, named_in}
use Rattle.af_plane.specs.Laws.{NamedVersionsNeverFall}
use Rattle.af_plane.specs.Looks.{Basis, Missed, On, Openly, looked}
use Rattle.af_plane.specs.Planes.{Applies}
use Rattle.af_plane.specs.Requests.{RequestRows}
use Rattle.af_plane.specs.Solos.{IsDecidedBy, NamesLast}
use Rattle.af_plane.specs.Turns.{IsActed, IsPlaced}
use Rattle.af_plane.specs.Visits.{PlaneRows, SoloRows, Visit}

-- ---- which version is named

-- none, or this one
abbrev pub Names : Shown → ℕ → Type 0
Names shown version = (shown.version ≡ None) ⊎ (shown.version ≡ Some version)

the_shown : (one shown : Shown) → Some one ≡ Some shown → one ≡ shown
the_shown one shown is = cc is

none_shown : (shown : Shown) → None ≡ Some shown → ⊥
none_shown shown is = cc

names_same : (one shown : Shown) (version : ℕ) → one.version ≡ Some version → Some one ≡ Some shown → Names shown version
names_same one shown version is told = inr (ap (λ (s : Shown). s.version) (sym (the_shown one shown told)) ∙ is)

-- ---- of an operation on the state, or of a page of the event logs

named_fault : (under : Under) (problem : Option Problem) (shown : Shown) → option_map (problem_told under) problem ≡ Some shown → Names shown under.version
named_fault under (Some problem) shown told = names_same (problem_told under problem) shown under.version refl told
named_fault under None shown told = absurd (none_shown shown told)

named_answer : (asked : Op) (under : Under) (it : Verdict) (shown : Shown) → answer_of asked under it ≡ Some shown → Names shown under.version
named_answer asked under (Open reply) shown told = inl (ap (λ (s : Shown). s.version) (sym (the_shown _ shown told)))
named_answer asked under Stranger shown told = named_fault under (problem_of asked cause.Unauthenticated) shown told
named_answer asked under (Lacks need) shown told = named_fault under (problem_of asked (cause.Denied need)) shown told
named_answer asked under (Refuses why) shown told = named_fault under (problem_of asked (cause.Op why)) shown told
named_answer asked under (Tells reply) shown told = names_same _ shown under.version refl told
named_answer asked under (Changes reply next) shown told = names_same _ shown under.version refl told

applied_names : (policy : PolicyRows) (old new : LedgerRows) (token : Option (List ℕ)) (it : Call) (t : ℕ) (shown : Shown) → Applies policy old token it t (Some (served.Shown shown)) new → Names shown old.version
applied_names policy old new token (call.State asked) t shown is = named_answer asked (standing_of old).under _ shown is.0.0
applied_names policy old new token (call.Entries window) t shown is = named_answer nameless (standing_of old).under _ shown is.0.0
applied_names policy old new token (call.Policy asked) t shown is = absurd is

-- ---- of an open operation

never : false ≡ true → ⊥
never is = cc

pool_closed : (it : PoolOp) → is_open (endpoint_of (op.Pool it)) ≡ true → ⊥
pool_closed (pool.List asked) is = never is
pool_closed (pool.Add input) is = never is
pool_closed (pool.Get name) is = never is
pool_closed (pool.Change name input) is = never is
pool_closed (pool.Delete name) is = never is

variable_closed : (it : VariableOp) → is_open (endpoint_of (op.Variable it)) ≡ true → ⊥
variable_closed (variable.List asked) is = never is
variable_closed (variable.Add input) is = never is
variable_closed (variable.Get key) is = never is
variable_closed (variable.Change key input) is = never is
variable_closed (variable.Delete key) is = never is

-- it names none
open_names : (asked : Op) (t : ℕ) (ledger : LedgerRows) (shown : Shown) → is_open (endpoint_of asked) ≡ true → answer_of asked (standing_of ledger).under (opened (effect_of nothing_readable ledger.state asked t)) ≡ Some shown → shown.version ≡ None
open_names op.Version t ledger shown opens told = ap (λ (s : Shown). s.version) (sym (the_shown _ shown told))
open_names (op.ListDags asked) t ledger shown opens told = absurd (never opens)
open_names (op.GetDag dag) t ledger shown opens told = absurd (never opens)
open_names (op.PauseDag dag input) t ledger shown opens told = absurd (never opens)
open_names (op.ListTasks dag) t ledger shown opens told = absurd (never opens)
open_names (op.ListRuns dag asked) t ledger shown opens told = absurd (never opens)
open_names (op.TriggerRun dag input) t ledger shown opens told = absurd (never opens)
open_names (op.GetRun dag run) t ledger shown opens told = absurd (never opens)
open_names (op.MarkRun dag run input) t ledger shown opens told = absurd (never opens)
open_names (op.DeleteRun dag run) t ledger shown opens told = absurd (never opens)
open_names (op.ClearRun dag run input) t ledger shown opens told = absurd (never opens)
open_names (op.ListInstances dag run asked) t ledger shown opens told = absurd (never opens)
open_names (op.GetInstance dag run task) t ledger shown opens told = absurd (never opens)
open_names (op.ClearInstances dag input) t ledger shown opens told = absurd (never opens)
open_names (op.BackfillDag dag input) t ledger shown opens told = absurd (never opens)
open_names (op.Pool it) t ledger shown opens told = absurd (pool_closed it opens)
open_names (op.Variable it) t ledger shown opens told = absurd (variable_closed it opens)

-- ---- of an operation on the policy

named_problem : (version : ℕ) (problem : Option Problem) (shown : Shown) → option_map (problem_at version) problem ≡ Some shown → Names shown version
named_problem version (Some problem) shown told = names_same (problem_at version problem) shown version refl told
named_problem version None shown told = absurd (none_shown shown told)

named_told : (version : ℕ) (it : PolicyVerdict) (shown : Shown) → IsTold version it shown → Names shown version
named_told version (policy.Refuses problem) shown is = named_problem version problem shown is
named_told version (policy.Tells reply) shown is = names_same _ shown version refl is
named_told version (policy.Publishes reply later) shown is = absurd is

named_openly : (problem : Option Problem) (shown : Shown) → option_map openly_problem problem ≡ Some shown → shown.version ≡ None
named_openly (Some problem) shown told = ap (λ (s : Shown). s.version) (sym (the_shown (openly_problem problem) shown told))
named_openly None shown told = absurd (none_shown shown told)

-- ---- it is the last that was seen

names_last : (shown : Shown) (version : ℕ) (now : Visit) → length now.pass.places ≡ version + 1 → Names shown version → NamesLast (served.Shown shown) now
names_last shown version now ends (inl none) =
    subst (λ (o : Option ℕ). IfSome o (λ v. length now.pass.places ≡ v + 1)) (sym none) tt
names_last shown version now ends (inr is) =
    subst (λ (o : Option ℕ). IfSome o (λ v. length now.pass.places ≡ v + 1)) (sym is) ends

none_named : (shown : Shown) (now : Visit) → shown.version ≡ None → NamesLast (served.Shown shown) now
none_named shown now none =
    subst (λ (o : Option ℕ). IfSome o (λ v. length now.pass.places ≡ v + 1)) (sym none) tt

-- nothing was decided
missed_names : (shown : Shown) (now : Visit) → IsNoPolicyTold (served.Shown shown) → NamesLast (served.Shown shown) now
missed_names shown now told = none_named shown now (named_openly no_policy shown told)

same_shown : (one shown : Shown) → served.Shown shown ≡ served.Shown one → one ≡ shown
same_shown one shown is = cc is

module _ (site : Site) (token : Option (List ℕ)) (t : ℕ) (old new : PlaneRows) (was now : Visit) (shown : Shown) where
  acted_names : (it : Call) (basis : Basis) → IsActed site (record { token = token; call = it; at = t }) old was (served.Shown shown) new now basis → NamesLast (served.Shown shown) now
  acted_names it Openly is = absurd is
  acted_names it Missed is = missed_names shown now is.missed.told
  acted_names it (On (grounds.Under m)) is =
      names_last shown m.version now is.last.1.last (applied_names (policy_of site m) (looked m.version old.ledger) new.ledger token it t shown is.applied)
  acted_names it (On (grounds.Made r)) is = absurd is
  acted_names it (On (grounds.Overtaken m)) is = absurd is
  acted_names it (On (grounds.Spent m pushed)) is = absurd is

  by_open : (asked : Op) (b : Bool) (basis : Basis) → is_open (endpoint_of asked) ≡ b → IsPlaced site (record { token = token; call = call.State asked; at = t }) old was (served.Shown shown) new now basis (call.State asked) → NamesLast (served.Shown shown) now
  by_open asked true basis opens is =
      let it = is.1 opens in none_named shown now (open_names asked t old.ledger shown opens it.served.0)
  by_open asked false basis closed is = acted_names (call.State asked) basis (is.0 closed)

module _ (site : Site) (token : Option (List ℕ)) (was now : Visit) (shown : Shown) where
  given_names : (asked : PolicyOp) (it : Grounds) → IsGiven site token asked (served.Shown shown) now it → NamesLast (served.Shown shown) now
  given_names asked (grounds.Under m) is = names_last shown m.version now is.last.1.last (named_told m.version _ shown is.told)
  given_names asked (grounds.Made r) is =
      names_last shown r.mark.version now is.last.1.last (inr (ap (λ (s : Shown). s.version) (sym (same_shown _ shown is.told))))
  given_names asked (grounds.Overtaken m) is =
      names_last shown is.version now is.is_last (named_told is.version (policy.Refuses (submit_problem is.change (fault.Moved is.version))) shown is.told)
  given_names asked (grounds.Spent m pushed) is =
      names_last shown m.version now is.last.1.last (named_told m.version (policy.Refuses (submit_problem is.change fault.Full)) shown is.told)

  administered_names : (asked : PolicyOp) (basis : Basis) → IsAdministered site token asked was (served.Shown shown) now basis → NamesLast (served.Shown shown) now
  administered_names asked Openly is = absurd is
  administered_names asked Missed is = missed_names shown now is.0.told
  administered_names asked (On it) is = given_names asked it is.given

-- so does the answer to an operation on the policy
pub asked_names : (site : Site) (token : Option (List ℕ)) (asked : PolicyOp) (was : Visit) (gave : Served) (now : Visit) → HasAsked site token asked was gave now → NamesLast gave now
asked_names site token asked was (served.Shown shown) now is = administered_names site token was now shown asked is.basis is.administered
asked_names site token asked was served.NothingDone now is = tt

decided_so : (old new : SoloRows) (token : Option (List ℕ)) (t : ℕ) (basis : Basis) (shown : Shown) (it : Call) → IsDecidedBy old (record { token = token; call = it; at = t }) (served.Shown shown) new basis it → NamesLast (served.Shown shown) new.session
decided_so old new token t basis shown (call.State asked) is =
    by_open old.site token t old.plane new.plane old.session new.session shown asked (is_open (endpoint_of asked)) basis refl is
decided_so old new token t basis shown (call.Entries window) is =
    acted_names old.site token t old.plane new.plane old.session new.session shown (call.Entries window) basis is
decided_so old new token t basis shown (call.Policy asked) is =
    administered_names old.site token old.session new.session shown asked basis is.0

pub decided_names : (old new : SoloRows) (asked : RequestRows) (gave : Served) (basis : Basis) → IsDecidedBy old asked gave new basis asked.call → NamesLast gave new.session
decided_names old new asked (served.Shown shown) basis is = decided_so old new asked.token asked.at basis shown asked.call is
decided_names old new asked served.NothingDone basis is = tt

-- ---- of all calls

module _ (mid : Visit) (ns : List ℕ) (rest : (n : ℕ) → n + 1 ≤ length mid.pass.places → Climb n ns) where
  by_version : (low : ℕ) (o : Option ℕ) → low + 1 ≤ length mid.pass.places → IfSome o (λ v. length mid.pass.places ≡ v + 1) → Climb low (option_to_list o ++ ns)
  by_version low None le is = rest low le
  by_version low (Some v) le is = (omega (arith, le, is), rest v (omega (arith, is)))

  pub climbs : (low : ℕ) (gave : Served) → low + 1 ≤ length mid.pass.places → NamesLast gave mid → Climb low (named_by gave ++ ns)
  climbs low (served.Shown shown) le is = by_version low shown.version le is
  climbs low served.NothingDone le is = rest low le

all_climb : (old : SoloRows) (exchanges : List Exchange) (new : SoloRows) (low : ℕ) → low + 1 ≤ length old.session.pass.places → AreAnswered old exchanges new → Climb low (named_in exchanges)
all_climb old [] new low le are = tt
all_climb old (x ∷ xs) new low le (mid, (basis, answered, later)) =
    climbs mid.session (named_in xs) (λ n more. all_climb mid xs new n more later) low x.served
    (omega (arith, le, prefix_length old.session.pass.places mid.session.pass.places answered.longer)) answered.names

pub never_fall : NamedVersionsNeverFall
never_fall old exchanges new seen is are = all_climb old exchanges new seen (omega (arith, is)) are
