use Rattle.std.proofs.Common.{arith}
use Rattle.af_tally.proofs.StepLemmas.{gives}
use Rattle.af_tally.proofs.keeper.Keeper.give.Goals as goal

pub split_seat-requires : goal.split_seat-requires
split_seat-requires g c = (c.self.invariant.1, omega (arith, c.self.invariant.0), gives _ _)
