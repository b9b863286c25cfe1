use Rattle.std.proofs.Common.{◌≡◌, ℕ, Bool, ◌&&◌, List, subst, sym}
use Rattle.std.specs.Prelude.{IfOk}
use Rattle.serde_json.specs.Written.{compact_text}
use Rattle.af_runs.specs.declared.run.Run.{Run}
use Rattle.af_policy.specs.Grants.{shows_runs}
use Rattle.af_ops.specs.Effects.{runs_data}
use Rattle.af_ops.proofs.ListingLemmas.{all_read}
use Rattle.af_ops.proofs.operations.runs.all_runs_text.Goals as goal

pub returns-then-reads_all_runs : goal.returns-then-reads_all_runs
returns-then-reads_all_runs g c =
    let shows : List ℕ → Bool = shows_runs (g.R.Reader.reads c.args.reader.now) in
    subst (λ (runs : List Run). IfOk c.page_text.result (λ body. body.items ≡ compact_text (runs_data c.args.window runs)))
    (sym (all_read shows (λ (run : Run). run.dag_id) c.args.runs.now (λ dag. (λ i. c.reads_all.ensures c.if-reads_all.true dag i && c.reads_all_runs.ensures c.if-reads_all_runs.true dag i)))) c.page_text.ensures
