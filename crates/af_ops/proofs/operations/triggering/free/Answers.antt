use Rattle.std.proofs.Common.{◌∙◌, sym, ap}
use Rattle.std.specs.Prelude.{Option}
use Rattle.af_runs.specs.declared.run_fault.RunFault.{RunFault}
use Rattle.af_ops.specs.Effects.{free_by}
use Rattle.af_ops.proofs.operations.triggering.free.Goals as goal

pub returns-in-Some-clause-told : goal.returns-in-Some-clause-told
returns-in-Some-clause-told c =
    ap (λ (f : Option RunFault). free_by c.args.run_id.now c.args.date f) (sym c.run_fault.ensures ∙ c.in-Some.is)
    ∙ c.conflict.ensures c.args.run_id.now
