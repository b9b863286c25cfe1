use Rattle.std.proofs.Common.{◌∙◌, map, ap, sym, arith, length, subst, ℕ}
use Rattle.std.proofs.lemmas.List.{length-map}
use Rattle.af_runs.specs.Chains.{no_row}
use Rattle.af_runs.specs.Wanted.{key_of, meets}
use Rattle.af_runs.proofs.FindLemmas.{Walks, walk_ends, walk_nowhere, walk_goes_on}
use Rattle.af_runs.proofs.ChainLemmas.{length-earlier_after}
use Rattle.af_runs.proofs.places.follow.Goals as goal

pub returns-in_default : goal.returns-in_default
returns-in_default c = walk_nowhere c.args.wanted.now c.args.rows.now _ c.requires.runs c.loop-number.invariant.0 c.loop-number.number c.loop-number.invariant.1 c.loop-number-test.true c.in_default.ensures

pub before-number-requires : goal.before-number-requires
before-number-requires c = omega (arith, c.in-Some.ensures.within, ap length c.requires.chains.earlier, length-earlier_after no_row (map (key_of c.args.wanted.now) c.args.rows.now), length-map c.args.rows.now (key_of c.args.wanted.now))

pub loop-number-smaller : goal.loop-number-smaller
loop-number-smaller c = (walk_goes_on c.args.wanted.now c.args.rows.now _ c.requires.runs c.loop-number.invariant.0 c.loop-number.number c.in-Some.place c.index-rows-place.result c.args.chains.now c.requires.chains c.loop-number.invariant.1 c.loop-number-test.true c.in-Some.ensures (sym (ap (meets c.args.wanted.now) c.index-rows-place.is) ∙ sym c.is_met.ensures ∙ c.if-is_met.false) c.before-number.result (c.before-number.ensures c.before-number.result)).1

pub loop-number-preserved : goal.loop-number-preserved
loop-number-preserved c = (c.in-Some.place, (walk_goes_on c.args.wanted.now c.args.rows.now _ c.requires.runs c.loop-number.invariant.0 c.loop-number.number c.in-Some.place c.index-rows-place.result c.args.chains.now c.requires.chains c.loop-number.invariant.1 c.loop-number-test.true c.in-Some.ensures (sym (ap (meets c.args.wanted.now) c.index-rows-place.is) ∙ sym c.is_met.ensures ∙ c.if-is_met.false) c.before-number.result (c.before-number.ensures c.before-number.result)).0)

pub returns : goal.returns
returns c = walk_ends c.args.wanted.now c.args.rows.now _ c.requires.runs c.loop-number.invariant.0 (subst (λ (n : ℕ). Walks c.args.wanted.now c.args.rows.now c.loop-number.invariant.0 n) c.loop-number-test.false c.loop-number.invariant.1)
