use Rattle.std.proofs.Common.{refl}
use Rattle.std.specs.Fmt.{digits}
use Rattle.serde_json.proofs.OnLiterals.{serde_json_on_literals}
use Rattle.af_store.proofs.worked.entries_by_the_rule.Goals as goal

pub returns-clause-tick : goal.returns-clause-tick
unfolding digits serde_json_on_literals
returns-clause-tick c = refl

pub returns-clause-pause : goal.returns-clause-pause
unfolding digits serde_json_on_literals
returns-clause-pause c = refl

pub returns-clause-trigger : goal.returns-clause-trigger
unfolding digits serde_json_on_literals
returns-clause-trigger c = refl

pub returns-clause-escapes : goal.returns-clause-escapes
unfolding digits serde_json_on_literals
returns-clause-escapes c = refl

pub returns-clause-report : goal.returns-clause-report
unfolding digits serde_json_on_literals
returns-clause-report c = refl

pub returns-clause-reading : goal.returns-clause-reading
unfolding digits serde_json_on_literals
returns-clause-reading c = refl

pub returns-clause-not_the_scheduler : goal.returns-clause-not_the_scheduler
unfolding digits serde_json_on_literals
returns-clause-not_the_scheduler c = refl
