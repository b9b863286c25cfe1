use Rattle.af_world.proofs.OneRowLemmas.{rows_stand}
use Rattle.af_world.proofs.laws.rows_shown_stand.Goals as goal

pub returns : goal.returns
returns c = rows_stand
