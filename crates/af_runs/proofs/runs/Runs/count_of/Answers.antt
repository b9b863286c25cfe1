use Rattle.std.proofs.Common.{◌∙◌, ap, ◌+◌, ◌-◌, arith, length, take, drop}
use Rattle.std.proofs.lemmas.List.{length-map}
use Rattle.af_runs.specs.Runs.{RunRows, runs_of}
use Rattle.af_runs.specs.declared.run.Run.{Run}
use Rattle.af_runs.proofs.RunLemmas.{count_split}
use Rattle.af_runs.proofs.runs.Runs.count_of.Goals as goal

pub overflow_add-result : goal.overflow_add-result
overflow_add-result c =
    let is = c.self.invariant in
    let rows = c.self.inside.rows.items in
    let listed = c.self.inside.index.dags.listed in
    let dag_id = c.args.dag_id.now in
    let first = ap length (c.of.ensures ∙ is.1.dags.numbers dag_id) ∙ length-map (runs_of (take listed rows) dag_id) (λ (run : Run). run.number) in
    let rest = c.count_of.ensures ∙ (λ i. length (runs_of (take (length (c.deref.ensures.value i) - c.listed-listed.ensures i) (drop (c.listed-listed.ensures i) (c.deref.ensures.value i))) dag_id)) in
    omega (arith, first, rest, count_split rows listed dag_id is.1.dags.within, is.0.bounded dag_id)

pub returns-clause-count : goal.returns-clause-count
returns-clause-count c =
    let is = c.self.invariant in
    let rows = c.self.inside.rows.items in
    let listed = c.self.inside.index.dags.listed in
    let dag_id = c.args.dag_id.now in
    let first = ap length (c.of.ensures ∙ is.1.dags.numbers dag_id) ∙ length-map (runs_of (take listed rows) dag_id) (λ (run : Run). run.number) in
    let rest = c.count_of.ensures ∙ (λ i. length (runs_of (take (length (c.deref.ensures.value i) - c.listed-listed.ensures i) (drop (c.listed-listed.ensures i) (c.deref.ensures.value i))) dag_id)) in
    (λ i. first i + rest i) ∙ count_split rows listed dag_id is.1.dags.within ∙ ap (λ (of : RunRows). length (runs_of of.rows dag_id)) c.self.view_is
