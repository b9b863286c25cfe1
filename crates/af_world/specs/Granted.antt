-- What stands behind each entry: who did it, and under which version its requirements were listed.
use Rattle.std.specs.Prelude.{◌≡◌, ℕ, List, [], ◌∷◌, Some, slice_get, ⊤}
use Rattle.af_policy.specs.Rows.{PolicyRows}
use Rattle.af_sched.specs.State.{StateRows}
use Rattle.af_ops.specs.Endpoints.{dag_of}
use Rattle.af_ops.specs.Required.{needs_for}
use Rattle.af_ops.specs.Verdicts.{dag_ids}
use Rattle.af_audit.specs.declared.act.Act.{Act}
use Rattle.af_audit.specs.declared.act.Act.TheVariants as act
use Rattle.af_audit.specs.declared.actor.Actor.{Actor}
use Rattle.af_audit.specs.declared.actor.Actor.TheVariants as actor
use Rattle.af_audit.specs.declared.entry.Entry.{Entry}
use Rattle.af_audit.specs.Acts.{IsAfter, IsState}
use Rattle.af_world.specs.Rules.{ListsForEach}

-- a user's act is an operation, and under the version that is named the user's roles list a permission for each of its requirements,
-- on this state; the scheduler and executors need none
abbrev pub IsGranted : List PolicyRows → StateRows → ℕ → Actor → Act → Type 0
IsGranted policies state version (actor.User user) (act.Did asked) =
    (policy : PolicyRows) × (slice_get policies version ≡ Some policy)
    × ListsForEach policy user (dag_of asked) (dag_ids state) (needs_for asked)
IsGranted policies state version (actor.User user) act.Tick = ⊥
IsGranted policies state version (actor.User user) (act.Claim claimed) = ⊥
IsGranted policies state version (actor.User user) (act.Report claimed outcome) = ⊥
IsGranted policies state version actor.Scheduler it = ⊤
IsGranted policies state version actor.Executor it = ⊤

-- the entries lead from one state to another, each by its act, and each was granted on the state before it
abbrev pub AreGranted : List PolicyRows → StateRows → List Entry → StateRows → Type 0
AreGranted policies old [] new = new ≡ old
AreGranted policies old (entry ∷ entries) new =
    (next : StateRows) × IsState next × IsAfter entry.act entry.moment old next
    × IsGranted policies old entry.version entry.actor entry.act × AreGranted policies next entries new
