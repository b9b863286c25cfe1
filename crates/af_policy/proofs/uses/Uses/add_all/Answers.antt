use Rattle.af_policy.specs.Uses.{count_at}
use Rattle.af_policy.proofs.UseLemmas.{counted_more}
use Rattle.af_policy.proofs.uses.Uses.add_all.Goals as goal

pub loop-name-preserved : goal.loop-name-preserved
loop-name-preserved c other counted =
    counted_more c.args.names.now c.loop-name.name-index c.name-item.result other (count_at c.args.self.now other) (count_at c.loop-name.self other) (count_at c.add.new.self other)
    c.name-item.is c.loop-name-test.true (c.loop-name.invariant other counted) (c.in_ok-add.ensures other counted)
