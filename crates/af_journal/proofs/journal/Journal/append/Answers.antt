use Rattle.af_journal.specs.Lines.{entries_of}
use Rattle.af_journal.proofs.ShownLemmas.{adds, leaves_more}
use Rattle.af_journal.proofs.journal.Journal.append.Goals as goal

pub returns-in_err-self-inside-clause-crash : goal.returns-in_err-self-inside-clause-crash
returns-in_err-self-inside-clause-crash g c db left =
    leaves_more g.S.Store c.self.inside.store c.self.inside.count c.args.self.now c.self.view_is c.self.invariant db (entries_of c.args.lines.now) (c.append_all.ensures.crash db left)

pub returns-clause-ok : goal.returns-clause-ok
returns-clause-ok g c is_open =
    let grew = c.in_ok-self-inside.ensures.ok is_open in
    adds g.S.Store c.self.inside.store c.self.inside.count c.args.self.now c.self.view_is c.self.invariant (g.S.Store.view c.append_all.new.store).committed (entries_of c.args.lines.now) grew.0 grew.1

pub returns-clause-crash : goal.returns-clause-crash
returns-clause-crash g c db left =
    leaves_more g.S.Store c.self.inside.store c.self.inside.count c.args.self.now c.self.view_is c.self.invariant db (entries_of c.args.lines.now) (c.append_all.ensures.crash db left)
