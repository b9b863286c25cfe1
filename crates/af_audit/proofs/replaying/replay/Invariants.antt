use Rattle.std.proofs.Common.{drop}
use Rattle.af_sched.specs.State.{StateRows}
use Rattle.af_audit.specs.Entries.{IsReplay}
use Rattle.af_audit.proofs.replaying.replay.Given as goal

-- what the entries that are left make of the state, all of them make of the first one
abbrev pub invariant-loop-entry : goal.invariant-loop-entry
invariant-loop-entry l =
    (last : StateRows) → IsReplay l.state.rows (drop l.entry-index l.entries) last → IsReplay l.fn.opening.rows l.entries last
