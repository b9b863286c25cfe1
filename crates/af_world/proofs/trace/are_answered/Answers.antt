use Rattle.std.proofs.Common.{refl, rules}
use Rattle.af_world.specs.Runs.{AreAnswers}
use Rattle.af_world.proofs.TraceLemmas.{alike_opening, place_differs, place_end, place_next}
use Rattle.af_world.proofs.trace.are_answered.Goals as goal

pub loop-i-init : goal.loop-i-init
loop-i-init c = alike_opening c.args.world.now c.args.steps.now c.args.answers.now c.conditions.ensures.state

pub returns-then-not-branch : goal.returns-then-not-branch
returns-then-not-branch c = (
  λ e. absurd (cc),
  λ all.
      absurd
      (place_differs c.runs_are_one.ensures (AreAnswers c.args.world.now c.args.steps.now c.args.answers.now) c.loop-i.world c.agrees.new.world c.args.steps.now c.args.answers.now c.loop-i.i c.index-steps-i.result c.index-answers-i.result c.in_ok-agrees.ensures.told.0
      (search rules) (search rules) c.index-steps-i.is c.index-answers-i.is c.in_ok-agrees.ensures.told.1 c.in_ok-agrees.ensures.state c.loop-i.invariant c.in_ok-agrees.field-0 c.if-not-branch.true c.in_ok-agrees.ensures.told.2 all),
)

pub loop-i-preserved : goal.loop-i-preserved
loop-i-preserved c =
    place_next c.runs_are_one.ensures (AreAnswers c.args.world.now c.args.steps.now c.args.answers.now) c.loop-i.world c.agrees.new.world c.args.steps.now c.args.answers.now c.loop-i.i c.index-steps-i.result c.index-answers-i.result c.in_ok-agrees.ensures.told.0
    (search rules) (search rules) c.index-steps-i.is c.index-answers-i.is c.in_ok-agrees.ensures.told.1 c.in_ok-agrees.ensures.state c.loop-i.invariant c.in_ok-agrees.field-0 c.if-not-branch.false c.in_ok-agrees.ensures.told.2

pub returns : goal.returns
returns c = (
  λ _.
      place_end (AreAnswers c.args.world.now c.args.steps.now c.args.answers.now) c.loop-i.world c.args.steps.now c.args.answers.now c.loop-i.i (search rules) (search rules) c.loop-i.invariant,
  λ _. refl,
)
