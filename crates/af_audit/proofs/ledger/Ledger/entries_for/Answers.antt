use Rattle.std.proofs.Common.{◌≡◌, ◌∙◌, ap, subst, sym, rules, List, ℕ}
use Rattle.std.specs.Prelude.{None, Ok, Some}
use Rattle.serde_json.specs.Written.{compact_text}
use Rattle.af_policy.specs.Grants.{first_unmet, reads_dag}
use Rattle.af_policy.specs.Views.{held}
use Rattle.af_ops.specs.declared.served.Served.TheVariants.{Shown}
use Rattle.af_ops.specs.declared.shown_answer.Shown as shown
use Rattle.af_ops.specs.Served.{IsServed, reply_told}
use Rattle.af_ops.specs.Verdicts.{dag_ids}
use Rattle.af_audit.specs.declared.entry.Entry.{Entry}
use Rattle.af_audit.specs.Answered.{standing_of}
use Rattle.af_audit.specs.EventLogs.{entries_granted, log_needs, nameless}
use Rattle.af_audit.specs.Ledgers.{LedgerRows}
use Rattle.af_audit.specs.Logs.{entries_data}
use Rattle.af_audit.proofs.LogLemmas.{page_granted, serves_page}
use Rattle.af_audit.proofs.ledger.Ledger.entries_for.Goals as goal

pub returns-in-Ok-entries_text : goal.returns-in-Ok-entries_text
returns-in-Ok-entries_text c =
    let lacked : first_unmet (held c.args.view.now) None (dag_ids c.args.self.now.state) log_needs ≡ None = search rules in
    let asked : c.args.asked.now ≡ Ok c.in-Ok.window = search rules in
    let text : c.of.result ≡ compact_text (entries_data (reads_dag (held c.args.view.now)) c.in-Ok.window c.args.self.now.audit.entries) =
    c.of.ensures ∙ c.in-Ok-entries_text.ensures
    ∙ ap (λ (entries : List Entry). compact_text (entries_data (reads_dag (held c.args.view.now)) c.in-Ok.window entries)) (c.entries.ensures.entries ∙ ap (λ (l : LedgerRows). l.audit.entries) c.self.view_is) in
    subst (λ (said : shown.Shown). IsServed nameless (entries_granted (held c.args.view.now) c.args.self.now c.args.asked.now) (standing_of c.args.self.now) (Shown said) (standing_of c.args.self.now))
    (sym (c.shown_reply.ensures ∙ ap (λ (body : List ℕ). reply_told c.under.result (Some body)) text))
    (serves_page (entries_granted (held c.args.view.now) c.args.self.now c.args.asked.now) c.args.self.now c.under.result _ (page_granted (held c.args.view.now) c.args.self.now c.args.asked.now c.in-Ok.window lacked asked) c.under.ensures)
