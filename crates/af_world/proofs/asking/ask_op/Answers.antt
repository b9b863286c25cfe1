use Rattle.std.proofs.Common.{◌≡◌, ◌∙◌, subst, ℕ, List}
use Rattle.std.specs.Prelude.{Option}
use Rattle.std.specs.Option.{option_copied}
use Rattle.af_policy.specs.Identity.{bearer_of}
use Rattle.af_audit.specs.Answered.{ledger_left, verdict_on}
use Rattle.af_world.proofs.AskedLemmas.{version_stays}
use Rattle.af_world.proofs.asking.ask_op.Goals as goal

pub returns-in-Shown-clause-left : goal.returns-in-Shown-clause-left
returns-in-Shown-clause-left c =
    subst (λ (token : Option (List ℕ)). c.answer.new.self ≡ ledger_left (bearer_of c.args.policy.now token) c.args.op.now c.args.now c.args.ledger.now (verdict_on c.args.policy.now c.args.ledger.now token c.args.op.now c.args.now))
    (c.as_ref.ensures.value ∙ c.of-presented.ensures)
    (c.verdicts_leave_one_ledger.ensures.told c.args.policy.now (option_copied c.as_ref.result) c.args.op.now c.args.now c.args.ledger.now c.answer.new.self c.in-Shown.shown c.in-Shown.ensures.served c.in-Shown.ensures.entry)

pub returns-in-Shown-clause-version : goal.returns-in-Shown-clause-version
returns-in-Shown-clause-version c =
    version_stays (bearer_of c.args.policy.now (option_copied c.as_ref.result)) c.args.op.now c.args.now c.args.ledger.now c.answer.new.self c.in-Shown.ensures.entry
