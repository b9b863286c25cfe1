use Rattle.std.proofs.Common.{◌∙◌, sym, ap, arith, List, ℕ, ◌-◌, length, take, drop}
use Rattle.std.specs.Prelude.{slice_get}
use Rattle.std.proofs.lemmas.List.{length-map}
use Rattle.af_runs.specs.Runs.{is_of, runs_of}
use Rattle.af_runs.specs.declared.run.Run.{Run}
use Rattle.af_runs.proofs.NthLemmas.{found_at, missed_at, listed_at, rest_at, past_from_none}
use Rattle.af_runs.proofs.runs.Runs.nth_of.Goals as goal

pub returns-in-Some : goal.returns-in-Some
returns-in-Some c =
    let is = c.self.invariant in
    let at = found_at c.of-listed.result.now c.args.place c.in-Some.number.now c.in-Some.ensures.lookup.0 c.in-Some.ensures.lookup.1 ∙ ap (λ (ns : List ℕ). slice_get ns c.args.place) (c.of-listed.ensures ∙ is.1.dags.numbers c.args.dag_id.now) in
    c.get-in-Some.ensures ∙ rw (← c.self.view_is) (listed_at (is_of c.args.dag_id.now) c.self.inside.rows.items c.self.inside.index.dags.listed c.args.place c.in-Some.number.now is.0.in_order (sym at))

pub returns-in-None : goal.returns-in-None
returns-in-None c =
    let is = c.self.invariant in
    let rows = c.self.inside.rows.items in
    let listed = c.self.inside.index.dags.listed in
    let dag_id = c.args.dag_id.now in
    let long = ap length (c.of-listed.ensures ∙ is.1.dags.numbers dag_id) ∙ length-map (runs_of (take listed rows) dag_id) (λ (run : Run). run.number) in
    let past = past_from_none c.of-listed.result.now c.args.place (sym (missed_at c.of-listed.result.now c.args.place c.in-None.ensures.lookup.0)) in
    c.nth_of.ensures
    ∙ (λ i. slice_get (runs_of (take (length (c.deref.ensures.value i) - c.listed.ensures i) (drop (c.listed.ensures i) (c.deref.ensures.value i))) dag_id) (c.args.place - long i))
    ∙ rw (← c.self.view_is) (rest_at (is_of dag_id) rows listed c.args.place is.1.dags.within (omega (arith, long, past)))
