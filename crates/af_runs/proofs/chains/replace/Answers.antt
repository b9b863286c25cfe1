use Rattle.std.proofs.Common.{◌≡◌, ◌∙◌, arith, get_or}
use Rattle.std.proofs.lemmas.List.{get_or_default}
use Rattle.std.proofs.lemmas.List.Edits.{map_over_more}
use Rattle.af_runs.proofs.ChainLemmas.{out_same, out_other}
use Rattle.af_runs.specs.Chains.{out}
use Rattle.af_runs.proofs.chains.replace.Goals.{then-number-from, else-number-from}
use Rattle.af_runs.proofs.chains.replace.Goals as goal

pub loop-number-preserved : goal.loop-number-preserved
loop-number-preserved c =
    let old = get_or c.loop-number.numbers c.loop-number.number-index 0 in
    let new : c.if-number-from.number ≡ out c.args.from c.args.to old = elim c.if-number-from.branch [
      | then-number-from w ↦ w.number-is ∙ out_same c.args.from c.args.to old w.if-number-from.true
      | else-number-from w ↦ w.number-is ∙ out_other c.args.from c.args.to old w.if-number-from.false
    ] in
    rw new (map_over_more (out c.args.from c.args.to) c.args.numbers.now c.loop-number.numbers c.loop-number.number-index old c.loop-number-test.true c.loop-number.invariant (get_or_default c.loop-number.numbers c.loop-number.number-index 0 old (omega (arith, c.loop-number.auto.numbers, c.loop-number-test.true))))
