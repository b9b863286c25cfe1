use Rattle.std.proofs.Common.{subst, List}
use Rattle.af_runs.specs.Index.{IsIndex}
use Rattle.af_runs.specs.declared.run.Run.{Run}
use Rattle.af_runs.proofs.runs.Runs.list_appended.Goals as goal

pub invariant_of-self : goal.invariant_of-self
invariant_of-self c =
    let is = c.self.invariant in
    let listed = subst (λ (rows : List Run). IsIndex rows c.self.inside.index → IsIndex rows c.list_rest.new.self) c.as_slice.ensures.value c.list_rest.ensures.runs in
    (is.0, listed is.1, c.list_rest.ensures.room c.self.inside.spare is.2, is.3)
