use Rattle.std.proofs.Common.{◌≡◌, ℕ, Bool, List, codes, length, map, subst, sym}
use Rattle.std.specs.Prelude.{IfOk}
use Rattle.serde_json.specs.Written.{compact_text}
use Rattle.af_listing.specs.Pages.{cut}
use Rattle.af_sched.specs.declared.dag_row.DagRow.{DagRow}
use Rattle.af_ops.specs.Fields.{listing_of}
use Rattle.af_ops.specs.Replies.{dag_data}
use Rattle.af_ops.proofs.ListingLemmas.{all_read}
use Rattle.af_ops.proofs.operations.dags.dags_text.Goals as goal

pub returns-then-reads_all : goal.returns-then-reads_all
returns-then-reads_all g c =
    let reads : List ℕ → Bool = (g.R.Reader.reads c.args.reader.now).dags in
    subst (λ (rows : List DagRow). IfOk c.page_text.result (λ body. body.items ≡ compact_text (listing_of (codes "dags") (map dag_data (cut c.args.window rows)) (length rows))))
    (sym (all_read reads (λ (row : DagRow). row.dag.dag_id) c.args.dags.now (c.reads_all.ensures c.if-reads_all.true))) c.page_text.ensures
