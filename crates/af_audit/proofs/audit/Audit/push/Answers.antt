use Rattle.std.proofs.Common.{rules}
use Rattle.af_audit.proofs.EntryLemmas.{audit_more}
use Rattle.af_audit.proofs.audit.Audit.push.Goals as goal

pub invariant_of-self : goal.invariant_of-self
invariant_of-self c = rw c.in_err-push.ensures.items c.self.invariant

pub invariant_of-self-2 : goal.invariant_of-self-2
invariant_of-self-2 c =
    rw c.in_ok-push.ensures.items (audit_more _ c.args.entry c.self.invariant (rw (← c.self.view_is) at c.requires) (search rules))
