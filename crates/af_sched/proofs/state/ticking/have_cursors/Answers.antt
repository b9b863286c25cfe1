use Rattle.std.proofs.Common.{◌≡◌, ◌∙◌, sym, ap, arith, rules, get_or, refl, List, ℕ}
use Rattle.std.specs.Prelude.{None}
use Rattle.std.proofs.lemmas.Bool.{false≢true}
use Rattle.af_sched.specs.declared.dag_row.DagRow.{DagRow}
use Rattle.af_sched.proofs.LikeLemmas.{cursors_from, with_at}
use Rattle.af_sched.proofs.StartLemmas.{get_or-same}
use Rattle.af_sched.proofs.state.ticking.have_cursors.Goals as goal

pub returns-then-ne : goal.returns-then-ne
returns-then-ne c = (
  λ wrong. absurd (false≢true wrong),
  λ is.
      let k : ℕ = c.loop-place.place in
      let row : DagRow = c.index-dags-place.result in
      let at : row.cursor ≡ c.index-cursors-place.result =
      ap (λ (r : DagRow). r.cursor) (c.index-dags-place.is ∙ ap (λ (rows : List DagRow). get_or rows k row) (sym is))
      ∙ with_at c.args.dags.now c.args.cursors.now k row c.requires c.loop-place-test.true
      ∙ get_or-same c.args.cursors.now k None c.index-cursors-place.result (omega (arith, c.requires))
      ∙ sym c.index-cursors-place.is in
      search rules,
)

pub returns : goal.returns
returns c =
    (λ _. sym (cursors_from c.args.dags.now c.args.dags.now c.args.cursors.now refl c.requires (λ k d inside i. record (get_or c.args.dags.now k d) { cursor = c.loop-place.invariant k d (omega arith) i })), λ _. refl)
