use Rattle.std.proofs.Common.{refl}
use Rattle.std.specs.Fmt.{digits}
use Rattle.json.specs.Print.{escape_byte}
use Rattle.af_ops.proofs.worked.faults_by_the_rule.Goals as goal

pub returns-clause-memory : goal.returns-clause-memory
unfolding digits escape_byte
returns-clause-memory c = refl

pub returns-clause-cut_off : goal.returns-clause-cut_off
unfolding digits escape_byte
returns-clause-cut_off c = refl
