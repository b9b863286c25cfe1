use Rattle.std.proofs.Common.{◌≡◌, ◌∙◌, sym, subst, get_or, take}
use Rattle.af_base.specs.Ordered.{with_row}
use Rattle.af_base.specs.Places.{FitsAt}
use Rattle.af_base.proofs.GrownLemmas.{fits_last, put_last}
use Rattle.af_vars.specs.Variables.{key_of}
use Rattle.af_vars.specs.declared.variable.Variable.{Variable}
use Rattle.af_vars.proofs.copying.copied.Goals as goal

pub insert_at-requires : goal.insert_at-requires
insert_at-requires c =
    let row : get_or c.args.rows.now c.loop-place.place c.index-rows-place.result ≡ c.in_ok-row.row = sym c.index-rows-place.is ∙ sym c.in_ok-row.ensures in
    rw c.loop-place.invariant
    (subst (λ (one : Variable). FitsAt key_of (take c.loop-place.place c.args.rows.now) (key_of one) c.loop-place.place) row
    (fits_last key_of c.args.rows.now c.loop-place.place c.index-rows-place.result c.requires c.loop-place-test.true))

pub loop-place-preserved : goal.loop-place-preserved
loop-place-preserved c =
    let row : get_or c.args.rows.now c.loop-place.place c.index-rows-place.result ≡ c.in_ok-row.row = sym c.index-rows-place.is ∙ sym c.in_ok-row.ensures in
    c.in_ok-insert_at.ensures.ok
    ∙ (λ i. with_row key_of (c.loop-place.invariant i) (sym row i))
    ∙ put_last key_of c.args.rows.now c.loop-place.place c.index-rows-place.result c.requires c.loop-place-test.true
