use Rattle.std.proofs.Common.{rules}
use Rattle.af_ops.specs.Effects.{made_id}
use Rattle.af_audit.proofs.run_name.made_text.Goals as goal

pub returns : goal.returns
unfolding made_id
returns c = search rules
