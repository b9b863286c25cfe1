use Rattle.af_journal.proofs.ShownLemmas.{counts}
use Rattle.af_journal.proofs.journal.Journal.count.Goals as goal

pub returns : goal.returns
returns g c = counts g.S.Store c.self.inside.store c.self.inside.count c.args.self.now c.self.view_is c.self.invariant
