use Rattle.std.proofs.Common.{◌∙◌, sym}
use Rattle.af_runs.specs.Runs.{is_of, runs_of}
use Rattle.af_runs.proofs.NthLemmas.{found_at}
use Rattle.af_runs.proofs.YieldLemmas.{first_at, get-drop}
use Rattle.af_runs.proofs.runs_of.RunsOf.first.Goals as goal

pub returns-in-Some : goal.returns-in-Some
returns-in-Some c =
    let kept = c.self.invariant in
    let rows = c.self.inside.runs.now.rows in
    let at = found_at c.self.inside.listed.now c.self.inside.place c.in-Some.number.now c.in-Some.ensures.lookup.0 c.in-Some.ensures.lookup.1 in
    rw (← c.self.view_is)
    (c.get-in-Some.ensures
    ∙ first_at (is_of c.self.inside.dag_id.now) rows c.self.inside.listed.now c.self.inside.place c.in-Some.number.now kept.0.in_order kept.1 (sym at)
    ∙ sym (get-drop (runs_of rows c.self.inside.dag_id.now) c.self.inside.place))

pub returns-in-None : goal.returns-in-None
returns-in-None c =
    rw (← c.self.view_is) (c.nth_of.ensures ∙ sym (get-drop (runs_of c.self.inside.runs.now.rows c.self.inside.dag_id.now) c.self.inside.place))
