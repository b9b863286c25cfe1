use Rattle.std.proofs.Common.{subst}
use Rattle.af_ops.specs.declared.answer.Under as under
use Rattle.af_ops.specs.declared.op.Op.{Op}
use Rattle.af_ops.specs.Decisions.{fault_verdict}
use Rattle.af_ops.specs.Served.{IsServed}
use Rattle.af_audit.specs.Answered.{standing_of}
use Rattle.af_audit.specs.EventLogs.{nameless}
use Rattle.af_audit.proofs.JudgedLemmas.{served_fault}
use Rattle.af_audit.proofs.ledger.Ledger.entries.Goals as goal

pub returns-in-Err : goal.returns-in-Err
returns-in-Err c = record {
  served =
      served_fault nameless _ (standing_of c.args.self.now) c.in-Err.fault c.refused.result c.in-Err.ensures.0
      (subst (λ (u : under.Under). IsServed nameless (fault_verdict c.in-Err.fault) (record { under = u; state = c.args.self.now.state }) c.refused.result (record { under = u; state = c.args.self.now.state })) c.under.ensures
      (subst (λ (asked : Op). IsServed asked (fault_verdict c.in-Err.fault) (record { under = c.under.result; state = c.args.self.now.state }) c.refused.result (record { under = c.under.result; state = c.args.self.now.state })) c.nameless.ensures (c.refused.ensures.served c.args.self.now.state)));
}
