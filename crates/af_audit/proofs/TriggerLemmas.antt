-- The entry of a trigger names the run that it added.
use Rattle.std.proofs.Common.{◌≡◌, ◌∙◌, ap, refl, subst, sym, ℕ, List, [], ◌∷◌, ◌++◌, false}
use Rattle.std.specs.Prelude.{◌≢◌, Option, Some, Result, Ok, Err, unwrap_or}
use Rattle.af_runs.specs.Runs.{AreRuns}
use Rattle.af_runs.specs.declared.run.Run.{Run}
use Rattle.af_sched.specs.State.{StateRows}
use Rattle.af_ops.specs.declared.answer.OpFault.{OpFault}
use Rattle.af_ops.specs.declared.body_fault.BodyFault.{BodyFault}
use Rattle.af_ops.specs.declared.op.Op.TheVariants as op
use Rattle.af_ops.specs.declared.trigger.Trigger.{Trigger}
use Rattle.af_ops.specs.Effects.{Effect, effect_of, nothing_readable}
use Rattle.af_ops.specs.Laws.{TriggersAddARun}
use Rattle.af_audit.specs.declared.entry.Entry.{Entry}
use Rattle.af_audit.specs.Acts.{IsState, next_of}
use Rattle.af_audit.specs.Entries.{IsReplay}
use Rattle.af_audit.specs.Laws.{TriggersNameTheirRun}
use Rattle.af_audit.specs.Logs.{triggered_in}

-- what entries make of rows that are as rows are at all times is such rows
made_state : (entries : List Entry) (old new : StateRows) → IsState old → IsReplay old entries new → IsState new
made_state [] old new state is = subst IsState (sym is) state
made_state (entry ∷ entries) old new state is = made_state entries is.0 new is.1 is.3

module _ (adds : TriggersAddARun) (dag_id : List ℕ) (input : Result Trigger BodyFault) (t : ℕ) (old new : StateRows) (kept : AreRuns old.runs old.next_run) (changed : new ≢ old) where
  added_by : (effect : Result Effect OpFault) → effect_of nothing_readable old (op.TriggerRun dag_id input) t ≡ effect → new ≡ unwrap_or (next_of effect) old → (run : Run) × (new.runs ≡ old.runs ++ run ∷ []) × (run.dag_id ≡ dag_id) × (triggered_in input t ≡ Some run.run_id)
  added_by (Err why) is after = absurd (changed after)
  added_by (Ok effect) is after =
      let it = adds nothing_readable old dag_id input t effect kept is in
      let made : new ≡ it.2.0 = after ∙ ap (λ (next : Option StateRows). unwrap_or next old) it.2.1 in (
        it.2.2.0,
        ap (λ (state : StateRows). state.runs) made ∙ it.2.2.1.last,
        it.2.2.1.of_dag,
        ap (λ (body : Result Trigger BodyFault). triggered_in body t) it.1 ∙ ap Some (sym it.2.2.1.named),
      )

pub names_its_run : TriggersAddARun → TriggersNameTheirRun
names_its_run adds who dag_id input t old new ledger enters =
    let state : IsState old.state = made_state old.audit.entries old.opening old.state ledger.opens ledger.replays in
    added_by adds dag_id input t old.state new.state state.runs enters.changed (effect_of nothing_readable old.state (op.TriggerRun dag_id input) t) refl enters.after
