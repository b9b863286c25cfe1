use Rattle.std.proofs.Common.{rules}
use Rattle.af_audit.proofs.LedgerLemmas.{ledger_looked}
use Rattle.af_audit.proofs.ledger.Ledger.look.Goals as goal

pub invariant_of-self : goal.invariant_of-self
invariant_of-self c = ledger_looked _ c.args.version c.self.invariant (search rules)
