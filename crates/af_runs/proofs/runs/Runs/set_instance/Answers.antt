use Rattle.std.proofs.Common.{◌≡◌, sym, ◌+◌, set, refl}
use Rattle.af_runs.specs.Runs.{with_instance}
use Rattle.af_runs.proofs.RunsLemmas.{can_keep, changed, changed_index}
use Rattle.af_runs.proofs.RunLemmas.{with_instance-is_set, with_instance-same, AreRuns-set}
use Rattle.af_runs.proofs.runs.Runs.set_instance.Goals as goal

pub invariant_of-self : goal.invariant_of-self
invariant_of-self c =
    let stands = rw (← c.self.view_is) at c.in-Some.ensures in
    let is = c.self.invariant in
    let same = changed c.self.inside.rows.items (c.self.inside.last + 1) is.0 c.self.inside.index is.1 c.in-Some.row _ c.index.result.now c.index_mut.result.now _ stands.within c.index.ensures (record { number = refl; dag_id = refl; run_id = refl; date = refl }) c.index_mut.ensures.value in
    let kept = c.keep_numbers.ensures.runs c.self.inside.rows.items c.in-Some.row is.1 stands.within same is.0.in_order in (
      rw c.index_mut.ensures.value (AreRuns-set _ _ _ _ _ refl refl refl refl stands.within is.0),
      changed_index c.self.inside.rows.items (c.self.inside.last + 1) is.0 c.self.inside.index is.1 c.in-Some.row _ c.index.result.now _ c.keep_numbers.new.self stands.within c.index.ensures kept,
      c.keep_numbers.ensures.room c.self.inside.spare is.2,
      is.3,
    )

pub keep_numbers-requires : goal.keep_numbers-requires
keep_numbers-requires c =
    let stands = rw (← c.self.view_is) at c.in-Some.ensures in
    let is = c.self.invariant in
    let same = changed c.self.inside.rows.items (c.self.inside.last + 1) is.0 c.self.inside.index is.1 c.in-Some.row _ c.index.result.now c.index_mut.result.now _ stands.within c.index.ensures (record { number = refl; dag_id = refl; run_id = refl; date = refl }) c.index_mut.ensures.value in
    can_keep c.self.inside.rows.items (c.self.inside.last + 1) is.0 c.self.inside.index is.1 c.self.inside.spare c.in-Some.row c.index.result.now c.index.result.now is.2 stands.within (same c.index.result.now)

pub returns-in-Some : goal.returns-in-Some
returns-in-Some c =
    let stands = rw (← c.self.view_is) at c.in-Some.ensures in
    let rows : set c.self.inside.rows.items c.in-Some.row (record c.index_mut.result.now { instances = c.set.new.self }) ≡ with_instance c.self.inside.rows.items c.args.number c.args.place c.args.instance =
    rw (c.set.ensures, c.index_mut.ensures.value) (sym (with_instance-is_set _ _ _ stands c.args.place c.args.instance _)) in
    rw (← c.self.view_is) (λ i. record { rows = rows i; next = c.self.inside.last + 1; spare = c.self.inside.spare })

pub returns-in_default : goal.returns-in_default
returns-in_default c =
    let rows = sym (with_instance-same _ _ c.in_default.ensures c.args.place c.args.instance) in
    λ i. record { rows = rows i; next = c.args.self.now.next; spare = c.args.self.now.spare }
