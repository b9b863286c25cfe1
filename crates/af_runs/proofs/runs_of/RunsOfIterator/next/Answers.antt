use Rattle.std.proofs.Common.{◌≡◌, ◌<◌, ◌+◌, ◌∙◌, ap, arith, drop, length, refl, rules, sym, List, ◌∷◌}
use Rattle.af_runs.specs.Runs.{runs_of}
use Rattle.af_runs.specs.declared.run.Run.{Run}
use Rattle.af_runs.proofs.YieldLemmas.{get-drop, next_at, none_left, within_some}
use Rattle.af_runs.proofs.runs_of.RunsOfIterator.next.Goals as goal

pub returns-in_err-run-clause-steps : goal.returns-in_err-run-clause-steps
returns-in_err-run-clause-steps c =
    let none : c.args.self.now ≡ Rattle.std.proofs.Common.[] = none_left c.args.self.now (sym c.in_err-run.ensures) in
    rw (c.from_residual.ensures) (none, none)

pub overflow_add-self : goal.overflow_add-self
overflow_add-self c =
    let runs : List Run = runs_of c.self.inside.runs.now.rows c.self.inside.dag_id.now in
    let at = rw (← c.self.view_is) at c.in_ok-run.ensures in
    let inside = within_some runs c.self.inside.place c.in_ok-run.run'.now (sym (get-drop runs c.self.inside.place) ∙ sym at) in
    omega (arith, inside, c.self.invariant.0.bounded c.self.inside.dag_id.now)

pub returns-clause-steps : goal.returns-clause-steps
returns-clause-steps c =
    let runs : List Run = runs_of c.self.inside.runs.now.rows c.self.inside.dag_id.now in
    let at = rw (← c.self.view_is) at c.in_ok-run.ensures in
    rw (← c.self.view_is) (next_at runs c.self.inside.place c.in_ok-run.run'.now (sym (get-drop runs c.self.inside.place) ∙ sym at))

pub returns-clause-goes : goal.returns-clause-goes
returns-clause-goes c =
    let left : List Run = drop (c.self.inside.place + 1) (runs_of c.self.inside.runs.now.rows c.self.inside.dag_id.now) in
    let steps : c.args.self.now ≡ c.in_ok-run.run'.now ∷ left = returns-clause-steps c in
    let less : length left < length c.args.self.now = omega (arith, ap (length {A = Run}) steps) in
    search rules
