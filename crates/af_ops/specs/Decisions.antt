-- A verdict whose operation is worked out and not yet done.
use Rattle.std.specs.Prelude.{◌≡◌, ◌⊎◌, List, ℕ, Bool, true, false, is_some, Option, Some, None, Result, Ok, Err, ⊤}
use Rattle.af_sched.specs.State.{StateRows}
use Rattle.af_ops.specs.declared.answer.CallFault.{CallFault}
use Rattle.af_ops.specs.declared.answer.CallFault.TheVariants as why
use Rattle.af_ops.specs.declared.answer.OpFault.{OpFault}
use Rattle.af_ops.specs.declared.answer.OpFault.TheVariants.{HistoryFull, OutOfMemory}
use Rattle.af_ops.specs.declared.op.Op.{Op}
use Rattle.af_ops.specs.declared.op.Op.TheVariants as op
use Rattle.af_ops.specs.Edits.{next_by}
use Rattle.af_ops.specs.Effects.{Effect}
use Rattle.af_ops.specs.Prepared.{Preparation}
use Rattle.af_ops.specs.Verdicts.{Verdict, Open, Stranger, Lacks, Refuses, Tells, Changes}

-- the verdict of a reply and a next state, if there is one
abbrev pub verdict_by : Option (List ℕ) → Option StateRows → Verdict
verdict_by reply None = Tells reply
verdict_by reply (Some next) = Changes reply next

abbrev pub prepared_verdict : StateRows → Preparation → Verdict
prepared_verdict state prepared = verdict_by prepared.reply (next_by prepared.edit state)

abbrev pub fault_verdict : CallFault → Verdict
fault_verdict why.Unauthenticated = Stranger
fault_verdict (why.Denied need) = Lacks need
fault_verdict (why.Op fault) = Refuses fault

-- whether an operation changes the state, where it is not refused; one whose body was not read changes nothing
abbrev pub ChangesWhereDone : Result Effect OpFault → Bool → Type 0
ChangesWhereDone (Ok effect) changes = is_some effect.next ≡ changes
ChangesWhereDone (Err fault) changes = fault ≡ OutOfMemory → changes ≡ false

-- whether it takes memory to tell that an operation changes the state: which instances a clear chooses
abbrev pub chooses : Op → Bool
chooses (op.ClearRun dag_id run_id input) = true
chooses (op.ClearInstances dag_id input) = true
chooses _ = false

-- an operation that is permitted and not refused: only there memory may be wanted, and where it is to be told whether one that
-- chooses instances would change the state, for whose entry there is no room
abbrev pub IsDoing : Op → Verdict → Type 0
IsDoing asked (Open reply) = ⊤
IsDoing asked Stranger = ⊥
IsDoing asked (Lacks need) = ⊥
IsDoing asked (Refuses fault) = (fault ≡ HistoryFull) × (chooses asked ≡ true)
IsDoing asked (Tells reply) = ⊤
IsDoing asked (Changes reply next) = ⊤

-- the verdict was worked out, or there was no memory to do what it permits
abbrev pub IsDecided : Op → StateRows → Verdict → Result Preparation CallFault → Type 0
IsDecided asked state it (Ok prepared) = it ≡ prepared_verdict state prepared
IsDecided asked state it (Err fault) = (it ≡ fault_verdict fault) ⊎ (IsDoing asked it × (fault ≡ why.Op OutOfMemory))
