use Rattle.sqlite_store.specs.FileStore.{view}
use Rattle.af_journal.specs.Files.{over_files}
use Rattle.af_journal.proofs.ShownLemmas.{stays_at_rest, goes, leaves_no_more, causes}
use Rattle.af_journal.proofs.journal.Journal+FileStore+D.checkpoint.Goals as goal

pub invariant_of-self : goal.invariant_of-self
invariant_of-self g c = stays_at_rest (view c.self.inside.store) (view c.checkpoint.new.self) c.self.inside.count c.checkpoint.ensures.same c.self.invariant

pub returns-clause-crash : goal.returns-clause-crash
returns-clause-crash g c = leaves_no_more over_files c.self.inside.store c.self.inside.count c.args.self.now c.self.view_is c.self.invariant c.checkpoint.new.self c.checkpoint.ensures.quiet

pub returns-clause-cause : goal.returns-clause-cause
returns-clause-cause g c = causes over_files c.self.inside.store c.self.inside.count c.args.self.now c.self.view_is c.self.invariant c.checkpoint.result c.checkpoint.new.self c.checkpoint.ensures.cause

pub returns-clause-goes_on : goal.returns-clause-goes_on
returns-clause-goes_on g c = goes over_files c.self.inside.store c.self.inside.count c.args.self.now c.self.view_is c.self.invariant c.checkpoint.new.self c.checkpoint.ensures.quiet

pub returns-clause-opened : goal.returns-clause-opened
returns-clause-opened g c = c.checkpoint.ensures.open
