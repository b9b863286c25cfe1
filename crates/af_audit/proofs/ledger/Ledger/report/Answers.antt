use Rattle.std.proofs.Common.{◌≡◌, ◌∙◌, ap, subst, sym, refl, rules}
use Rattle.std.specs.Prelude.{None}
use Rattle.std.specs.Option.{option_copied}
use Rattle.af_runs.specs.Runs.{run_at}
use Rattle.af_sched.specs.Reports.{reported}
use Rattle.af_sched.specs.declared.claim.Claim.{Claim}
use Rattle.af_audit.specs.declared.act.Act.TheVariants as act
use Rattle.af_audit.specs.declared.actor.Actor.TheVariants.{Executor}
use Rattle.af_audit.specs.Ledgers.{LedgerRows}
use Rattle.af_audit.specs.Reported.{TakesReport}
use Rattle.af_audit.proofs.LedgerLemmas.{ledger_grown}
use Rattle.af_audit.proofs.ReportedLemmas.{no_run, same_report, takes_report}
use Rattle.af_audit.proofs.ledger.Ledger.report.Goals as goal

pub invariant_of-self-2 : goal.invariant_of-self-2
invariant_of-self-2 c =
    let made : c.report-told.new.self.rows ≡ reported c.args.at c.args.outcome c.self.inside.state.rows c.args.claim.now = search rules in
    rw c.in_default-enter.ensures.ok
    (ledger_grown _ Executor (act.Report c.in-Ok.kept c.args.outcome) c.args.at c.report-told.new.self.rows c.self.invariant c.in_default-enter.ensures.room refl c.show_state.ensures
    (made ∙ sym (same_report c.args.at c.args.outcome c.self.inside.state.rows c.args.claim.now c.in-Some.run'.now) ∙ ap (λ (claim : Claim). reported c.args.at c.args.outcome c.self.inside.state.rows claim) (sym c.in-Ok.ensures)))

pub returns-in_default : goal.returns-in_default
returns-in_default c =
    let none : run_at c.self.inside.state.rows.runs c.args.claim.now.run_number ≡ None = sym c.run_numbered.ensures ∙ ap option_copied c.in_default.is in
    (no_run c.args.self.now.state c.args.claim.now (ap (λ (l : LedgerRows). run_at l.state.runs c.args.claim.now.run_number) (sym c.self.view_is) ∙ none), refl)

pub returns : goal.returns
returns c =
    let before : LedgerRows = record { opening = c.self.inside.opening.rows; state = c.self.inside.state.rows; audit = c.self.inside.audit; version = c.self.inside.version } in
    let after : LedgerRows = record { opening = c.self.inside.opening.rows; state = c.report-told.new.self.rows; audit = c.enter.new.self; version = c.self.inside.version } in
    let made : c.report-told.new.self.rows ≡ reported c.args.at c.args.outcome c.self.inside.state.rows c.args.claim.now = search rules in
    subst (λ (old : LedgerRows). TakesReport c.args.at c.args.claim.now c.args.outcome old after) c.self.view_is
    (takes_report c.args.at c.args.claim.now c.in-Ok.kept c.args.outcome before c.in-Some.run'.now c.report-told.new.self.rows c.enter.new.self (sym c.report_fault.ensures ∙ c.in_default-report_fault.is) c.in_default-enter.ensures.room (sym c.in-Some.ensures) c.in-Ok.ensures made c.in_default-enter.ensures.ok)
