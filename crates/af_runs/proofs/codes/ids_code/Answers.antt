use Rattle.std.proofs.Common.{rules}
use Rattle.af_runs.specs.Codes.{ids_code}
use Rattle.af_runs.proofs.codes.ids_code.Goals as goal

pub returns : goal.returns
unfolding ids_code
returns c = search rules
