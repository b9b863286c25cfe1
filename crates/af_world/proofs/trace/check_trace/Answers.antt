use Rattle.std.proofs.Common.{subst, rules}
use Rattle.std.specs.Prelude.{IfOk}
use Rattle.std.specs.Bool.{Decides}
use Rattle.af_world.specs.Runs.{AreAnswers}
use Rattle.af_world.specs.Worlds.{World, opening_world}
use Rattle.af_world.proofs.TraceLemmas.{not_as_many}
use Rattle.af_world.proofs.trace.check_trace.Goals as goal

pub returns-then-steps-answers : goal.returns-then-steps-answers
returns-then-steps-answers c = (
  λ e. absurd (cc),
  λ all. absurd (not_as_many (opening_world c.args.opening.now) c.args.steps.now c.args.answers.now (search rules) all),
)

pub returns : goal.returns
returns c =
    subst (λ (w : World). IfOk c.are_answered.result (λ yes. Decides yes (AreAnswers w c.args.steps.now c.args.answers.now))) c.in_ok-world.ensures c.are_answered.ensures
