use Rattle.std.proofs.Common.{refl}
use Rattle.std.specs.Fmt.{digits}
use Rattle.json.specs.Print.{escape_byte}
use Rattle.af_ops.proofs.worked.messages_by_the_rule.Goals as goal

pub returns-clause-one : goal.returns-clause-one
unfolding digits escape_byte
returns-clause-one c = refl

pub returns-clause-paused : goal.returns-clause-paused
unfolding digits escape_byte
returns-clause-paused c = refl

pub returns-clause-again : goal.returns-clause-again
unfolding digits escape_byte
returns-clause-again c = refl

pub returns-clause-denied : goal.returns-clause-denied
unfolding digits escape_byte
returns-clause-denied c = refl

pub returns-clause-absent : goal.returns-clause-absent
unfolding digits escape_byte
returns-clause-absent c = refl

pub returns-clause-bad_member : goal.returns-clause-bad_member
unfolding digits escape_byte
returns-clause-bad_member c = refl

pub returns-clause-nobody : goal.returns-clause-nobody
unfolding digits escape_byte
returns-clause-nobody c = refl

pub returns-clause-version : goal.returns-clause-version
unfolding digits escape_byte
returns-clause-version c = refl
