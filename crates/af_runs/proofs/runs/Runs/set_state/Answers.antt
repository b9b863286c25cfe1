use Rattle.std.proofs.Common.{◌≡◌, sym, ◌+◌, set, refl}
use Rattle.af_runs.specs.Runs.{with_state}
use Rattle.af_runs.proofs.RunsLemmas.{can_keep, changed, changed_index}
use Rattle.af_runs.proofs.RunLemmas.{with_state-is_set, with_state-same, AreRuns-set}
use Rattle.af_runs.proofs.runs.Runs.set_state.Goals as goal

pub invariant_of-self : goal.invariant_of-self
invariant_of-self c =
    let stands = rw (← c.self.view_is) at c.in-Some.ensures in
    let is = c.self.invariant in
    let same = changed c.self.inside.rows.items (c.self.inside.last + 1) is.0 c.self.inside.index is.1 c.in-Some.place _ c.index.result.now c.index_mut-run.result.now _ stands.within c.index.ensures (record { number = refl; dag_id = refl; run_id = refl; date = refl }) c.index_mut-run.ensures.value in
    let kept = c.keep_numbers.ensures.runs c.self.inside.rows.items c.in-Some.place is.1 stands.within same is.0.in_order in (
      rw c.index_mut-run.ensures.value (AreRuns-set _ _ _ _ _ refl refl refl refl stands.within is.0),
      changed_index c.self.inside.rows.items (c.self.inside.last + 1) is.0 c.self.inside.index is.1 c.in-Some.place _ c.index.result.now _ c.keep_numbers.new.self stands.within c.index.ensures kept,
      c.keep_numbers.ensures.room c.self.inside.spare is.2,
      is.3,
    )

pub keep_numbers-requires : goal.keep_numbers-requires
keep_numbers-requires c =
    let stands = rw (← c.self.view_is) at c.in-Some.ensures in
    let is = c.self.invariant in
    let same = changed c.self.inside.rows.items (c.self.inside.last + 1) is.0 c.self.inside.index is.1 c.in-Some.place _ c.index.result.now c.index_mut-run.result.now _ stands.within c.index.ensures (record { number = refl; dag_id = refl; run_id = refl; date = refl }) c.index_mut-run.ensures.value in
    can_keep c.self.inside.rows.items (c.self.inside.last + 1) is.0 c.self.inside.index is.1 c.self.inside.spare c.in-Some.place c.index.result.now c.index.result.now is.2 stands.within (same c.index.result.now)

pub returns-in-Some : goal.returns-in-Some
returns-in-Some c =
    let stands = rw (← c.self.view_is) at c.in-Some.ensures in
    let rows : set c.self.inside.rows.items c.in-Some.place (record c.index_mut-run.result.now { state = c.args.state; start_date = c.from-run.result; end_date = c.from-run-in-Some.result }) ≡ with_state c.self.inside.rows.items c.args.number c.args.state c.args.start_date c.args.end_date =
    rw c.from-run.ensures rw c.from-run-in-Some.ensures rw c.index_mut-run.ensures.value (sym (with_state-is_set _ _ _ stands c.args.state c.args.start_date c.args.end_date _)) in
    rw (← c.self.view_is) (λ i. record { rows = rows i; next = c.self.inside.last + 1; spare = c.self.inside.spare })

pub returns-in_default : goal.returns-in_default
returns-in_default c =
    let rows = sym (with_state-same _ _ c.in_default.ensures c.args.state c.args.start_date c.args.end_date) in
    λ i. record { rows = rows i; next = c.args.self.now.next; spare = c.args.self.now.spare }
