-- A report of a run that is not there, and one of a run that is.
use Rattle.std.proofs.Common.{◌≡◌, ◌∙◌, refl, sym, ap, ℕ, List, [], ◌∷◌, Bool, true, false, cond, ◌&&◌}
use Rattle.std.specs.Prelude.{Option, Some, None, find, ◌==◌}
use Rattle.std.specs.Option.{option_map_or, option_or}
use Rattle.std.proofs.lemmas.List.Folds.{find-append}
use Rattle.af_graph.specs.Graph.{same_name}
use Rattle.af_runs.specs.Runs.{is_numbered, run_at}
use Rattle.af_runs.specs.declared.run.Run.{Run}
use Rattle.af_sched.specs.Placed.{Placed, placed_in, placed_of}
use Rattle.af_sched.specs.Reports.{fault_at, is_claimed, report_fault, reported}
use Rattle.af_sched.specs.State.{StateRows, tasks_of}
use Rattle.af_sched.specs.declared.claim.Claim.{Claim}
use Rattle.af_sched.specs.declared.dag_row.DagRow.{DagRow}
use Rattle.af_sched.specs.declared.outcome.Outcome.{Outcome}
use Rattle.af_sched.specs.declared.report_fault.ReportFault.TheVariants.{NoSuchInstance}
use Rattle.af_sched.proofs.PlacedLemmas.{find-absent, run_of_placed}
use Rattle.af_audit.specs.declared.act.Act.TheVariants as act
use Rattle.af_audit.specs.declared.actor.Actor.TheVariants.{Executor}
use Rattle.af_audit.specs.Entries.{AuditRows, has_room, with_entry}
use Rattle.af_audit.specs.Ledgers.{LedgerRows, entry_of}
use Rattle.af_audit.specs.Reported.{TakesReport, claim_in}

-- an instance of a run of another number is not the one that a claim names
not_claimed : (claim : Claim) (run : Run) (placed : Placed) → run ≡ placed.run → is_numbered claim.run_number run ≡ false → is_claimed claim placed ≡ false
not_claimed claim run placed same other =
    ap (λ (r : Run). (r.number == claim.run_number) && same_name placed.task.task_id claim.task_id) (sym same)
    ∙ ap (λ (b : Bool). b && same_name placed.task.task_id claim.task_id) other

-- nothing is found where the first is not it, and nothing after it
nothing_first : (b : Bool) (run : Run) (rest : Option Run) → cond b (Some run) rest ≡ None → b ≡ false
nothing_first true run rest none = cc
nothing_first false run rest none = refl

nothing_later : (b : Bool) (run : Run) (rest : Option Run) → cond b (Some run) rest ≡ None → rest ≡ None
nothing_later true run rest none = cc
nothing_later false run rest none = none

-- where there is no run of the number, there is no instance that the claim names
no_instance : (dags : List DagRow) (runs : List Run) (claim : Claim) → find (is_numbered claim.run_number) runs ≡ None → find (is_claimed claim) (placed_in dags runs) ≡ None
no_instance dags [] claim none = refl
no_instance dags (run ∷ runs) claim none =
    let here : is_numbered claim.run_number run ≡ false = nothing_first (is_numbered claim.run_number run) run (find (is_numbered claim.run_number) runs) none in
    let later : find (is_numbered claim.run_number) runs ≡ None = nothing_later (is_numbered claim.run_number run) run (find (is_numbered claim.run_number) runs) none in
    let first : find (is_claimed claim) (placed_of (tasks_of dags run.dag_id) run) ≡ None =
    find-absent (is_claimed claim) (λ (r : Run). placed_of (tasks_of dags r.dag_id) r) (placed_of (tasks_of dags run.dag_id) run)
    (λ placed has. not_claimed claim run placed (run_of_placed (tasks_of dags run.dag_id) run placed has) here) in
    find-append (is_claimed claim) (placed_of (tasks_of dags run.dag_id) run) (placed_in dags runs)
    ∙ (λ i. option_or (first i) (no_instance dags runs claim later i))

pub no_run : (state : StateRows) (claim : Claim) → run_at state.runs claim.run_number ≡ None → report_fault state claim ≡ Some NoSuchInstance
no_run state claim none =
    ap (λ (found : Option Placed). option_map_or (fault_at claim) found (Some NoSuchInstance)) (no_instance state.dags state.runs claim none)

-- which ids a claim gives to its run changes nothing
pub same_report : (t : ℕ) (outcome : Outcome) (state : StateRows) (claim : Claim) (run : Run) → reported t outcome state (claim_in claim run) ≡ reported t outcome state claim
same_report t outcome state claim run = refl

-- a report that is taken
pub takes_report : (t : ℕ) (claim kept : Claim) (outcome : Outcome) (old : LedgerRows) (run : Run) (next : StateRows) (audit : AuditRows) → report_fault old.state claim ≡ None → has_room old.audit ≡ true → run_at old.state.runs claim.run_number ≡ Some run → kept ≡ claim_in claim run → next ≡ reported t outcome old.state claim → audit ≡ with_entry old.audit (entry_of old Executor (act.Report kept outcome) t) → TakesReport t claim outcome old (record old { state = next; audit = audit })
takes_report t claim kept outcome old run next audit no_fault room numbered copy made more = record {
  no_fault = no_fault;
  room = room;
  run = run;
  numbered = numbered;
  ledger = rw (made, more, copy) refl;
}
