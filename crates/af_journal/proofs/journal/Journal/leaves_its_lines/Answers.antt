use Rattle.af_journal.proofs.ShownLemmas.{leaves, honest_if_open}
use Rattle.af_journal.proofs.journal.Journal.leaves_its_lines.Goals as goal

pub returns-clause-left : goal.returns-clause-left
returns-clause-left g c = leaves g.S.Store c.self.inside.store c.self.inside.count c.args.self.now c.self.view_is c.self.invariant g.met.S.Store.settled

pub returns-clause-honest : goal.returns-clause-honest
returns-clause-honest g c =
    let store = c.self.inside.store in
    honest_if_open g.S.Store store c.self.inside.count c.args.self.now c.self.view_is c.self.invariant (g.met.S.Store.shut_if_dirty store, g.met.S.Store.broken_if_shut store)
