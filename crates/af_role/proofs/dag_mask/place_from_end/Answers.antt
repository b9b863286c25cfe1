use Rattle.std.proofs.Common.{sym, ap, ◌∙◌, arith}
use Rattle.std.specs.Ordering.{nat_cmp}
use Rattle.std.specs.Cmp.Lexicographic.{slice_cmp}
use Rattle.af_role.proofs.DagMaskLemmas.{fits_behind, stands_last}
use Rattle.af_role.proofs.dag_mask.place_from_end.Goals as goal

pub returns-in-Less : goal.returns-in-Less
returns-in-Less c =
    fits_behind c.args.rows.now c.args.dag.now c.in-Some.last c.index-rows-last.result c.requires c.index-rows-last.is (omega (arith, c.in-Some.ensures))
    (ap (λ id. slice_cmp nat_cmp id c.args.dag.now) (sym c.key.ensures) ∙ sym c.cmp.ensures ∙ c.in-Less.is)

pub returns-in-Equal : goal.returns-in-Equal
returns-in-Equal c =
    stands_last c.args.rows.now c.args.dag.now c.in-Some.last c.index-rows-last.result c.requires c.index-rows-last.is (omega (arith, c.in-Some.ensures))
    (ap (λ id. slice_cmp nat_cmp id c.args.dag.now) (sym c.key.ensures) ∙ sym c.cmp.ensures ∙ c.in-Equal.is)
