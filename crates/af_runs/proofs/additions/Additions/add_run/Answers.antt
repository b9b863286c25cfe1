use Rattle.std.proofs.Common.{sym, ◌∙◌}
use Rattle.af_runs.proofs.RunLemmas.{AreRuns-additions, no_fault_after}
use Rattle.af_runs.proofs.additions.Additions.add_run.Goals as goal

pub add_free-requires : goal.add_free-requires
add_free-requires c =
    let told = sym c.add_fault.ensures.told ∙ c.in_default.is in
    no_fault_after c.self.inside.runs.now.rows c.self.inside.added.rows c.self.inside.added.next c.args.new.dag_id c.args.new.run_id c.args.new.logical_date (rw (← (c.self.view_is ∙ c.add_fault.ensures.kept)) at told)

pub invariant_of-self : goal.invariant_of-self
invariant_of-self c =
    let told = sym c.add_fault.ensures.told ∙ c.in_default.is in
    let no_fault = rw (← (c.self.view_is ∙ c.add_fault.ensures.kept)) at told in
    AreRuns-additions c.self.inside.runs.now.rows c.self.inside.added c.add_free.new.self c.args.new c.add_free.result no_fault c.add_free.ensures.ok c.add_free.ensures.positive c.add_free.ensures.err c.self.invariant

pub invariant_of-self-2 : goal.invariant_of-self-2
invariant_of-self-2 c =
    let told = sym c.add_fault.ensures.told ∙ c.in_default.is in
    let no_fault = rw (← (c.self.view_is ∙ c.add_fault.ensures.kept)) at told in
    AreRuns-additions c.self.inside.runs.now.rows c.self.inside.added c.add_free.new.self c.args.new c.add_free.result no_fault c.add_free.ensures.ok c.add_free.ensures.positive c.add_free.ensures.err c.self.invariant
