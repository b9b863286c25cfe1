use Rattle.std.proofs.Common.{rules}
use Rattle.af_runs.specs.Codes.{date_code}
use Rattle.af_runs.proofs.codes.date_code.Goals as goal

pub returns : goal.returns
unfolding date_code
returns c = search rules
