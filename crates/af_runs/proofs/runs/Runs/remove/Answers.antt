use Rattle.std.proofs.Common.{◌∙◌, sym, ap, arith, subst, List, ◌+◌, ◌<◌, map, length}
use Rattle.std.specs.Prelude.{not}
use Rattle.std.proofs.lemmas.List.{get_or_default, length-map}
use Rattle.af_runs.specs.Chains.{no_row}
use Rattle.af_runs.specs.Codes.{by_ids, by_date}
use Rattle.af_runs.specs.Index.{IsIndex}
use Rattle.af_runs.specs.Runs.{AreRuns, is_numbered}
use Rattle.af_runs.specs.declared.run.Run.{Run}
use Rattle.af_runs.proofs.ChainLemmas.{length-earlier_after}
use Rattle.af_runs.proofs.RunLemmas.{AreRuns-filter, without_run-is_remove, without_run-same}
use Rattle.af_runs.proofs.runs.Runs.remove.Goals as goal

pub remove-requires-clause-ids : goal.remove-requires-clause-ids
remove-requires-clause-ids c =
    let is = c.self.invariant in
    let stands = rw (← c.self.view_is) at c.in-Some.ensures in
    omega (arith, stands.within, ap length is.1.ids.earlier, length-earlier_after no_row (map by_ids c.self.inside.rows.items), length-map c.self.inside.rows.items by_ids)

pub remove-requires-clause-dates : goal.remove-requires-clause-dates
remove-requires-clause-dates c =
    let is = c.self.invariant in
    let stands = rw (← c.self.view_is) at c.in-Some.ensures in
    omega (arith, stands.within, ap length is.1.dates.earlier, length-earlier_after no_row (map by_date c.self.inside.rows.items), length-map c.self.inside.rows.items by_date)

pub invariant_of-self : goal.invariant_of-self
invariant_of-self c =
    let is = c.self.invariant in
    let stands = rw (← c.self.view_is) at c.in-Some.ensures in
    let rows = c.self.inside.rows.items in
    let place = c.in-Some.place in
    let run = c.remove-run.result in
    let here = λ (d : Run). get_or_default rows place d run stands.within ∙ sym c.remove-run.ensures.value in (
      subst (λ (some : List Run). AreRuns some (c.self.inside.last + 1)) (without_run-is_remove rows c.args.number place stands ∙ sym c.remove-run.ensures.items) (AreRuns-filter (λ (other : Run). not (is_numbered c.args.number other)) rows (c.self.inside.last + 1) is.0),
      subst (λ (some : List Run). IsIndex some c.remove.new.self) (sym c.remove-run.ensures.items) (c.remove.ensures.runs rows is.1 stands.within here (subst (λ (other : Run). 0 < other.number) (here run) (is.0.positive place run stands.within)) is.0.in_order),
      c.remove.ensures.room c.self.inside.spare is.2,
      omega (arith, is.3, c.remove-run.ensures.len, c.remove-run.ensures.capacity),
    )

pub returns-in-Some : goal.returns-in-Some
returns-in-Some c =
    let stands = rw (← c.self.view_is) at c.in-Some.ensures in
    let rows = c.remove-run.ensures.items ∙ sym (without_run-is_remove c.self.inside.rows.items c.args.number c.in-Some.place stands) in
    rw (← c.self.view_is) (λ i. record { rows = rows i; next = c.self.inside.last + 1; spare = c.self.inside.spare })

pub returns-in_default : goal.returns-in_default
returns-in_default c =
    let rows = sym (without_run-same c.args.self.now.rows c.args.number c.in_default.ensures) in
    λ i. record { rows = rows i; next = c.args.self.now.next; spare = c.args.self.now.spare }
