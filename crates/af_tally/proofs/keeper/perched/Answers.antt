use Rattle.std.proofs.Common.{arith}
use Rattle.af_tally.proofs.StepLemmas.{gives}
use Rattle.af_tally.proofs.keeper.perched.Goals as goal

pub split_seat-spare-requires : goal.split_seat-spare-requires
split_seat-spare-requires g c = (c.requires.table.0, omega (arith, c.requires.table.1), gives _ _)
