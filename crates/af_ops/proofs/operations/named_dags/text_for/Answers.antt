use Rattle.std.proofs.Common.{◌≡◌, ◌∙◌, ◌||◌, ℕ, Bool, List, ap, codes, length, map, rules, subst, sym}
use Rattle.std.specs.Prelude.{IfOk}
use Rattle.serde_json.specs.Written.{compact_text}
use Rattle.af_role.specs.Pairs.{on_dag}
use Rattle.af_role.specs.declared.action.Action.TheVariants.{Read}
use Rattle.af_policy.specs.Grants.{reads_dag}
use Rattle.af_policy.specs.Views.{held}
use Rattle.af_listing.specs.Pages.{cut}
use Rattle.af_sched.specs.declared.dag_row.DagRow.{DagRow}
use Rattle.af_ops.specs.Fields.{listing_of}
use Rattle.af_ops.specs.Replies.{dag_data}
use Rattle.af_ops.specs.Rows.{dag_fields}
use Rattle.af_ops.proofs.ListingLemmas.{all_read}
use Rattle.af_ops.proofs.NamedLemmas.{read_same}
use Rattle.af_ops.proofs.PageLemmas.{listing_now}
use Rattle.af_ops.proofs.operations.named_dags.text_for.Goals as goal

pub returns-then-reads_all : goal.returns-then-reads_all
returns-then-reads_all c =
    subst (λ (rows : List DagRow). IfOk c.page_text.result (λ body. body.items ≡ compact_text (listing_of (codes "dags") (map dag_data (cut c.args.window rows)) (length rows))))
    (c.dags.ensures.rows ∙ sym (all_read (reads_dag (held c.args.view.now)) (λ (row : DagRow). row.dag.dag_id) c.args.state.now.rows.dags (c.reads_all.ensures.all c.if-reads_all.true)))
    c.page_text.ensures

pub returns : goal.returns
returns c =
    let named : List ℕ → Bool = λ dag. held c.args.view.now (on_dag Read dag) in
    let same : (dag : List ℕ) → named dag ≡ reads_dag (held c.args.view.now) dag =
    λ dag. sym (ap (λ (all : Bool). all || named dag) (sym c.reads_all.ensures.exact ∙ c.if-reads_all.false)) in
    c.in_ok-body.ensures
    ∙ listing_now (codes "dags") (λ row. row.now) dag_fields c.args.window c.cut-shown.result.now c.in_ok-listed.listed.items _ _
    (rw (c.cut-shown.ensures, c.as_slice.ensures.value))
    (c.in_ok-listed.ensures ∙ read_same (λ (row : DagRow). row.dag.dag_id) c.args.state.now.rows.dags named (reads_dag (held c.args.view.now)) same)
    (search rules)
