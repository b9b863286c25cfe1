use Rattle.af_sched.proofs.TickLemmas.{tick_keeps_rows}
use Rattle.af_sched.proofs.laws.a_tick_keeps_the_rows.Goals as goal

pub returns : goal.returns
returns c = tick_keeps_rows
