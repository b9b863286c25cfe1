use Rattle.std.proofs.Common.{arith}
use Rattle.af_store.specs.Names.{AreNames}
use Rattle.af_store.proofs.FactLemmas.{all_hold, more_hold}
use Rattle.af_store.proofs.facts.show_names.Goals as goal

pub loop-name-preserved : goal.loop-name-preserved
loop-name-preserved g c =
    more_hold (AreNames g.K.NameKind.grammar) c.args.names.now c.loop-name.name-index c.loop-name.invariant c.name-item.result (omega arith) c.name-item.is
    (λ rest. (c.show_name.ensures, rest))

pub returns : goal.returns
returns g c = all_hold (AreNames g.K.NameKind.grammar) c.args.names.now c.loop-name.name-index c.loop-name.invariant (omega arith) tt
