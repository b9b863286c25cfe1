use Rattle.std.proofs.Common.{◌≡◌, ◌∙◌, ap, subst, sym, refl}
use Rattle.std.specs.Option.{option_copied}
use Rattle.af_ops.specs.declared.answer.Under as under
use Rattle.af_ops.specs.declared.served.Served.TheVariants as served
use Rattle.af_ops.specs.declared.shown_answer.Shown as shown
use Rattle.af_ops.specs.Decisions.{fault_verdict}
use Rattle.af_ops.specs.Prepared.{told_alone}
use Rattle.af_ops.specs.Served.{IsServed, reply_told}
use Rattle.af_ops.specs.Verdicts.{Verdict}
use Rattle.af_audit.specs.Answered.{closed_verdict, standing_of, verdict_on}
use Rattle.af_audit.specs.Ledgers.{LedgerRows}
use Rattle.af_audit.proofs.AnsweredLemmas.{serves_told}
use Rattle.af_audit.proofs.JudgedLemmas.{closed_is, served_fault}
use Rattle.af_audit.proofs.ledger.Ledger.show.Goals as goal

pub returns-in-Ok : goal.returns-in-Ok
returns-in-Ok c =
    let here : LedgerRows = c.args.self.now in
    let it : Verdict = closed_verdict c.args.policy.now here (option_copied c.args.token) c.args.op.now c.args.now in
    let is : it ≡ verdict_on c.args.policy.now here (option_copied c.args.token) c.args.op.now c.args.now = closed_is c.args.policy.now here (option_copied c.args.token) c.args.op.now c.args.now c.requires.closed in
    let told : IsServed c.args.op.now it (standing_of here) (served.Shown (reply_told (standing_of here).under c.in-Ok.reply)) (standing_of here) =
    serves_told c.args.op.now it (standing_of here) (told_alone c.in-Ok.reply) (c.in-Ok.ensures here.audit.limit (standing_of here).under) refl in
    let said : c.shown_reply.result ≡ reply_told (standing_of here).under c.in-Ok.reply = c.shown_reply.ensures ∙ ap (λ (u : under.Under). reply_told u c.in-Ok.reply) c.under-under.ensures in
    record {
      served =
          subst (λ (s : shown.Shown). IsServed c.args.op.now (verdict_on c.args.policy.now here (option_copied c.args.token) c.args.op.now c.args.now) (standing_of here) (served.Shown s) (standing_of here)) (sym said)
          (subst (λ (v : Verdict). IsServed c.args.op.now v (standing_of here) (served.Shown (reply_told (standing_of here).under c.in-Ok.reply)) (standing_of here)) is told);
    }

pub returns-in-Err : goal.returns-in-Err
returns-in-Err c =
    let here : LedgerRows = c.args.self.now in
    let it : Verdict = closed_verdict c.args.policy.now here (option_copied c.args.token) c.args.op.now c.args.now in
    let is : it ≡ verdict_on c.args.policy.now here (option_copied c.args.token) c.args.op.now c.args.now = closed_is c.args.policy.now here (option_copied c.args.token) c.args.op.now c.args.now c.requires.closed in
    let refused : IsServed c.args.op.now (fault_verdict c.in-Err.fault) (standing_of here) c.refused.result (standing_of here) =
    subst (λ (u : under.Under). IsServed c.args.op.now (fault_verdict c.in-Err.fault) (record { under = u; state = c.args.self.now.state }) c.refused.result (record { under = u; state = c.args.self.now.state })) c.under-under.ensures (c.refused.ensures.served c.args.self.now.state) in
    record {
      served =
          subst (λ (v : Verdict). IsServed c.args.op.now v (standing_of here) c.refused.result (standing_of here)) is
          (served_fault c.args.op.now it (standing_of here) c.in-Err.fault c.refused.result (c.in-Err.ensures here.audit.limit (standing_of here).under) refused);
    }
