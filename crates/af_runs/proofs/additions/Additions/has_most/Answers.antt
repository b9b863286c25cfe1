use Rattle.std.proofs.Common.{arith, ap, length}
use Rattle.af_runs.specs.declared.run.Run.{Run}
use Rattle.af_runs.proofs.RunLemmas.{few_together}
use Rattle.af_runs.proofs.additions.Additions.has_most.Goals as goal

pub returns-then-rows-before-clause-told : goal.returns-then-rows-before-clause-told
returns-then-rows-before-clause-told c =
    let long = ap (length {A = Run}) c.rows.ensures.rows in
    rw (← c.self.view_is)
    (few_together c.self.inside.runs.now.rows c.self.inside.added.rows c.args.dag_id.now (c.count_of-before.ensures.kept.bounded c.args.dag_id.now) (omega (arith, long, c.count_of-before.ensures.count, c.if-rows-before.true)))
