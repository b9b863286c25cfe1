use Rattle.std.proofs.Common.{◌+◌, refl}
use Rattle.af_runs.specs.Runs.{HasKeyOf}
use Rattle.af_runs.proofs.RunsLemmas.{can_keep, changed, changed_index}
use Rattle.af_runs.proofs.RunLemmas.{AreRuns-set}
use Rattle.af_runs.proofs.runs.Runs.clear_at.Goals as goal

pub invariant_of-self : goal.invariant_of-self
invariant_of-self c =
    let within = rw (← c.self.view_is) at c.requires in
    let is = c.self.invariant in
    let key : HasKeyOf c.index_mut.result.now c.clear.new.self = rw c.clear.ensures (record { number = refl; dag_id = refl; run_id = refl; date = refl }) in
    let same = changed c.self.inside.rows.items (c.self.inside.last + 1) is.0 c.self.inside.index is.1 c.args.place _ c.index-then-admits.result.now c.index_mut.result.now _ within c.index-then-admits.ensures key c.index_mut.ensures.value in
    let kept = c.keep_numbers.ensures.runs c.self.inside.rows.items c.args.place is.1 within same is.0.in_order in (
      rw (c.clear.ensures, c.index_mut.ensures.value) (AreRuns-set _ _ _ _ _ refl refl refl refl within is.0),
      changed_index c.self.inside.rows.items (c.self.inside.last + 1) is.0 c.self.inside.index is.1 c.args.place _ c.index-then-admits.result.now _ c.keep_numbers.new.self within c.index-then-admits.ensures kept,
      c.keep_numbers.ensures.room c.self.inside.spare is.2,
      is.3,
    )

pub keep_numbers-requires : goal.keep_numbers-requires
keep_numbers-requires c =
    let within = rw (← c.self.view_is) at c.requires in
    let is = c.self.invariant in
    let key : HasKeyOf c.index_mut.result.now c.clear.new.self = rw c.clear.ensures (record { number = refl; dag_id = refl; run_id = refl; date = refl }) in
    let same = changed c.self.inside.rows.items (c.self.inside.last + 1) is.0 c.self.inside.index is.1 c.args.place _ c.index-then-admits.result.now c.index_mut.result.now _ within c.index-then-admits.ensures key c.index_mut.ensures.value in
    can_keep c.self.inside.rows.items (c.self.inside.last + 1) is.0 c.self.inside.index is.1 c.self.inside.spare c.args.place c.index-then-admits.result.now c.index-then-admits.result.now is.2 within (same c.index-then-admits.result.now)
