use Rattle.std.proofs.Common.{◌∙◌, sym, rules}
use Rattle.af_sched.proofs.PassingLemmas.{held_as_given}
use Rattle.af_sched.proofs.tick.queue.held_of.Goals as goal

pub returns : goal.returns
returns c =
    let same = c.slots_held.ensures ∙ held_as_given c.args.all.now c.args.pool.now in
    rw (sym same) (search rules)
