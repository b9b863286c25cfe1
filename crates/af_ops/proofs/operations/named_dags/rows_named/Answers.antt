use Rattle.std.proofs.Common.{◌≡◌, ◌∙◌, Bool, List, ℕ, ap, subst, map-id, nat_cmp}
use Rattle.std.specs.List.{filter_map}
use Rattle.std.specs.List.Sorted.{IsStrictlySortedBy}
use Rattle.std.specs.Cmp.Lexicographic.{slice_cmp}
use Rattle.af_role.specs.Pairs.{on_dag}
use Rattle.af_role.specs.declared.action.Action.TheVariants.{Read}
use Rattle.af_policy.specs.Views.{held, is_named}
use Rattle.af_sched.specs.State.{dag_of}
use Rattle.af_sched.specs.declared.dag_row.DagRow.{DagRow}
use Rattle.af_ops.specs.Listings.{read_rows}
use Rattle.af_ops.proofs.NamedLemmas.{found_is_named, read_same}
use Rattle.af_ops.proofs.operations.named_dags.rows_named.Goals as goal

pub returns : goal.returns
returns c =
    let ids : List (List ℕ) = c.in_ok-named.named.rows in
    let rows : List DagRow = c.args.state.now.rows.dags in
    let id_of : DagRow → List ℕ = λ row. row.dag.dag_id in
    let reads : List ℕ → Bool = λ dag. held c.args.view.now (on_dag Read dag) in
    let rises : IsStrictlySortedBy (slice_cmp nat_cmp) ids = subst (IsStrictlySortedBy (slice_cmp nat_cmp)) (map-id ids) c.rows.ensures.kept in
    let looked : filter_map (dag_of rows) c.rows.result.now ≡ filter_map (dag_of rows) ids = ap (filter_map (dag_of rows)) c.rows.ensures.rows in
    let found : filter_map (dag_of rows) ids ≡ read_rows (is_named ids) id_of rows = found_is_named id_of ids rows rises c.dags-dags.ensures.kept.in_order in
    let read : read_rows (is_named ids) id_of rows ≡ read_rows reads id_of rows = read_same id_of rows (is_named ids) reads c.in_ok-named.ensures in
    c.in_ok-listed.ensures ∙ looked ∙ found ∙ read
