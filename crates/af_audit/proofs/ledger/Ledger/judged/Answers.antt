use Rattle.std.proofs.Common.{◌≡◌, ◌∙◌, ◌<◌, inr, ap, subst, sym, refl, rules, true, length, arith}
use Rattle.std.proofs.lemmas.Bool.{lt-ltb}
use Rattle.std.specs.Prelude.{Ok, Err}
use Rattle.af_policy.specs.Views.{held}
use Rattle.af_sched.specs.State.{StateRows}
use Rattle.af_ops.specs.Decisions.{IsDecided}
use Rattle.af_ops.specs.Edits.{edited, is_edit}
use Rattle.af_ops.specs.declared.answer.CallFault.TheVariants as why
use Rattle.af_ops.specs.declared.answer.OpFault.{OpFault}
use Rattle.af_ops.specs.declared.answer.OpFault.TheVariants.{OutOfMemory}
use Rattle.af_ops.specs.declared.answer.Under as under
use Rattle.af_audit.specs.declared.act.Act.TheVariants.{Did}
use Rattle.af_audit.specs.declared.actor.Actor.TheVariants.{User}
use Rattle.af_audit.specs.Answered.{IsPerformed, standing_of}
use Rattle.af_audit.specs.Entries.{has_room}
use Rattle.af_audit.specs.Ledgers.{Enters, LedgerRows}
use Rattle.af_audit.proofs.JudgedLemmas.{decided_here, edit_is_after, enters_for, ledger_verdict, wants_memory}
use Rattle.af_audit.proofs.LedgerLemmas.{ledger_grown}
use Rattle.af_audit.proofs.ledger.Ledger.judged.Goals as goal

pub returns-in-Err-clause-performed : goal.returns-in-Err-clause-performed
returns-in-Err-clause-performed c =
    let old : LedgerRows = record { opening = c.self.inside.opening.rows; state = c.self.inside.state.rows; audit = c.self.inside.audit; version = c.self.inside.version } in
    let after : LedgerRows = record { opening = c.self.inside.opening.rows; state = c.decide_for.new.state.rows; audit = c.self.inside.audit; version = c.self.inside.version } in
    let here : c.under-under.result ≡ (standing_of old).under = c.under-under.ensures ∙ ap (λ (l : LedgerRows). (standing_of l).under) (sym c.self.view_is) in
    let decided : IsDecided c.args.op.now old.state (ledger_verdict (held c.args.view.now) c.args.op.now c.args.now old) (Err c.in-Err.fault) =
    decided_here (held c.args.view.now) c.args.op.now c.args.now old c.under-under.result c.limit-limit.result (Err c.in-Err.fault) here c.limit-limit.ensures c.in-Err.ensures.verdict in
    subst (λ (l : LedgerRows). IsPerformed c.args.op.now (ledger_verdict (held c.args.view.now) c.args.op.now c.args.now l) (standing_of l) (Err c.in-Err.fault) (standing_of after)) c.self.view_is
    (decided, ap (λ (s : StateRows). standing_of (record old { state = s })) c.decide_for.ensures.rows)

pub returns-in-Err-record-clause-performed : goal.returns-in-Err-record-clause-performed
returns-in-Err-record-clause-performed c =
    let old : LedgerRows = record { opening = c.self.inside.opening.rows; state = c.self.inside.state.rows; audit = c.self.inside.audit; version = c.self.inside.version } in
    let after : LedgerRows = record { opening = c.self.inside.opening.rows; state = c.decide_for.new.state.rows; audit = c.record.new.audit; version = c.self.inside.version } in
    let here : c.under-under.result ≡ (standing_of old).under = c.under-under.ensures ∙ ap (λ (l : LedgerRows). (standing_of l).under) (sym c.self.view_is) in
    let decided : IsDecided c.args.op.now old.state (ledger_verdict (held c.args.view.now) c.args.op.now c.args.now old) (Ok c.in-Ok.prepared) =
    decided_here (held c.args.view.now) c.args.op.now c.args.now old c.under-under.result c.limit-limit.result (Ok c.in-Ok.prepared) here c.limit-limit.ensures c.in-Ok.ensures.verdict in
    let some : is_edit c.in-Ok.prepared.edit ≡ true = search rules in
    let within : c.under-under.result.seq < c.limit-limit.result = c.in-Ok.ensures.entries some in
    let count : c.under-under.result.seq ≡ length old.audit.entries = ap (λ (u : under.Under). u.seq) here in
    let most : c.limit-limit.result ≡ old.audit.limit = c.limit-limit.ensures in
    let room : has_room old.audit ≡ true = lt-ltb (length old.audit.entries) old.audit.limit (omega (arith, within, count, most)) in
    let want : c.in-Err-record.fault ≡ OutOfMemory = c.in-Err-record.ensures.fault room in
    subst (λ (l : LedgerRows). IsPerformed c.args.op.now (ledger_verdict (held c.args.view.now) c.args.op.now c.args.now l) (standing_of l) (Err (why.Op c.in-Err-record.fault)) (standing_of after)) c.self.view_is (
      subst (λ (f : OpFault). IsDecided c.args.op.now old.state (ledger_verdict (held c.args.view.now) c.args.op.now c.args.now old) (Err (why.Op f))) (sym want)
          (wants_memory (held c.args.view.now) c.args.op.now c.args.now old c.in-Ok.prepared decided some),
      λ i. standing_of (record old { state = c.decide_for.ensures.rows i; audit = c.in-Err-record.ensures.err i }),
    )

pub invariant_of-self-2 : goal.invariant_of-self-2
invariant_of-self-2 c =
    let old : LedgerRows = record { opening = c.self.inside.opening.rows; state = c.self.inside.state.rows; audit = c.self.inside.audit; version = c.self.inside.version } in
    let here : c.under-under.result ≡ (standing_of old).under = c.under-under.ensures ∙ ap (λ (l : LedgerRows). (standing_of l).under) (sym c.self.view_is) in
    let decided : IsDecided c.args.op.now old.state (ledger_verdict (held c.args.view.now) c.args.op.now c.args.now old) (Ok c.in-Ok.prepared) =
    decided_here (held c.args.view.now) c.args.op.now c.args.now old c.under-under.result c.limit-limit.result (Ok c.in-Ok.prepared) here c.limit-limit.ensures c.in-Ok.ensures.verdict in
    let some : is_edit c.in-Ok.prepared.edit ≡ true = search rules in
    let made : c.commit-reply.new.state.rows ≡ edited c.in-Ok.prepared.edit c.self.inside.state.rows = c.commit-reply.ensures.next ∙ ap (edited c.in-Ok.prepared.edit) c.decide_for.ensures.rows in
    rw c.in_default.ensures.ok
    (ledger_grown old (User c.args.user.now) (Did c.args.op.now) c.args.now c.commit-reply.new.state.rows c.self.invariant c.in_default.ensures.room refl c.show_state.ensures (made ∙ edit_is_after (held c.args.view.now) c.args.op.now c.args.now old c.in-Ok.prepared decided some))

pub returns-clause-entry : goal.returns-clause-entry
returns-clause-entry c =
    let old : LedgerRows = record { opening = c.self.inside.opening.rows; state = c.self.inside.state.rows; audit = c.self.inside.audit; version = c.self.inside.version } in
    let after : LedgerRows = record { opening = c.self.inside.opening.rows; state = c.commit-reply.new.state.rows; audit = c.record.new.audit; version = c.self.inside.version } in
    let here : c.under-under.result ≡ (standing_of old).under = c.under-under.ensures ∙ ap (λ (l : LedgerRows). (standing_of l).under) (sym c.self.view_is) in
    let decided : IsDecided c.args.op.now old.state (ledger_verdict (held c.args.view.now) c.args.op.now c.args.now old) (Ok c.in-Ok.prepared) =
    decided_here (held c.args.view.now) c.args.op.now c.args.now old c.under-under.result c.limit-limit.result (Ok c.in-Ok.prepared) here c.limit-limit.ensures c.in-Ok.ensures.verdict in
    let some : is_edit c.in-Ok.prepared.edit ≡ true = search rules in
    let made : c.commit-reply.new.state.rows ≡ edited c.in-Ok.prepared.edit c.self.inside.state.rows = c.commit-reply.ensures.next ∙ ap (edited c.in-Ok.prepared.edit) c.decide_for.ensures.rows in
    inr (subst (λ (l : LedgerRows). Enters (User c.args.user.now) (Did c.args.op.now) c.args.now l after) c.self.view_is
    (subst (λ (s : StateRows). Enters (User c.args.user.now) (Did c.args.op.now) c.args.now old (record old { state = s; audit = c.record.new.audit })) (sym made)
    (enters_for (held c.args.view.now) c.args.op.now c.args.now old c.args.user.now c.in-Ok.prepared decided some c.record.new.audit c.in_default.ensures.ok c.in-Ok.ensures.exact c.in_default.ensures.room)))
