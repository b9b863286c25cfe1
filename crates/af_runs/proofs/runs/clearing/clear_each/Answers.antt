use Rattle.std.proofs.Common.{refl, sym, subst, arith, ◌+◌}
use Rattle.af_runs.specs.Runs.{RunRows}
use Rattle.af_runs.proofs.DagClearLemmas.{HaveCleared, cleared_all, cleared_more, none_missed}
use Rattle.af_runs.proofs.runs.clearing.clear_each.Goals as goal
use Rattle.af_runs.proofs.runs.clearing.clear_each.Goals.{in-Some, in_default}

pub loop-nth-init : goal.loop-nth-init
loop-nth-init c = (0, (refl, λ k d low. absurd (omega (arith, low)), λ k d high. refl, refl), omega arith, refl)

pub clear_at-requires : goal.clear_at-requires
clear_at-requires c = c.in-Some.ensures.within

pub loop-nth-preserved : goal.loop-nth-preserved
loop-nth-preserved c =
    elim c.match-place_of_nth.branch [
      | in-Some w ↦ subst (λ (runs : RunRows). HaveCleared c.args.filter.now c.args.selection.now c.args.runs.now (c.loop-nth.nth + 1) runs) (sym w.runs-is)
          (cleared_more c.args.filter.now c.args.selection.now c.args.runs.now c.loop-nth.runs w.clear_at.new.self c.loop-nth.nth w.in-Some.place w.in-Some.ensures w.clear_at.ensures c.loop-nth.invariant)
      | in_default w ↦ absurd (none_missed c.args.filter.now c.args.selection.now c.args.runs.now c.loop-nth.runs c.loop-nth.nth c.loop-nth.invariant w.in_default.ensures (omega (arith, c.loop-nth-test.true, c.count_of-count.ensures.count)))
    ]

pub returns : goal.returns
returns c =
    cleared_all c.args.filter.now c.args.selection.now c.args.runs.now c.loop-nth.runs c.loop-nth.nth
    (omega (arith, c.loop-nth-test.false, c.count_of-count.ensures.count))
    c.loop-nth.invariant
    (omega (arith, c.loop-nth.auto.nth-end, c.count_of-count.ensures.count))
