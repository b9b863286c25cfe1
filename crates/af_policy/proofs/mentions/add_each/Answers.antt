use Rattle.af_policy.specs.Uses.{count_in}
use Rattle.af_policy.proofs.UseLemmas.{counted_more}
use Rattle.af_policy.proofs.mentions.add_each.Goals as goal

pub loop-name-preserved : goal.loop-name-preserved
loop-name-preserved c other is =
    counted_more c.args.names.now c.loop-name.name-index c.name-item.result other (count_in c.args.counts.now other) (count_in c.loop-name.counts other) (count_in c.add.new.counts other)
    c.name-item.is c.loop-name-test.true (c.loop-name.invariant other is) (c.in_ok-add.ensures other is)
