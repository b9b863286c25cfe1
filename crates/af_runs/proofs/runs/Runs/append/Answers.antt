use Rattle.std.proofs.Common.{◌∙◌, sym, ap, ◌+◌, ◌-◌, arith, subst, List, ℕ, ◌++◌, length}
use Rattle.af_runs.specs.Index.{HasRoomFor, IsIndex}
use Rattle.af_runs.specs.Runs.{AreRuns}
use Rattle.af_runs.specs.declared.run.Run.{Run}
use Rattle.af_runs.proofs.OkLemmas.{push_ok}
use Rattle.af_runs.proofs.runs.Runs.append.Goals as goal

pub invariant_of-self : goal.invariant_of-self
invariant_of-self c =
    let is = c.self.invariant in
    let kept = rw (← c.self.view_is) at c.requires.kept in
    let room = rw (← c.self.view_is) at c.requires.room in
    let many = c.as_slice.ensures.len ∙ sym c.len.ensures in
    let long = ap length c.as_slice.ensures.value in
    let ok = c.append-done.ensures.succeeds (omega (arith, is.3, room, many, long, c.len.ensures)) in
    let items = push_ok _ _ _ _ c.append-done.ensures.items ok in
    let count = push_ok _ _ _ _ c.append-done.ensures.len ok in (
      subst (λ (rows : List Run). AreRuns rows (c.args.last + 1)) (sym items) kept,
      subst (λ (rows : List Run). IsIndex rows c.push_all.new.self) (ap (λ (added : List Run). c.self.inside.rows.items ++ added) c.as_slice.ensures.value ∙ sym items) (c.push_all.ensures.runs c.self.inside.rows.items is.1),
      c.push_all.ensures.room (c.self.inside.spare - c.len.result) (subst (λ (n : ℕ). HasRoomFor n c.self.inside.index) (omega (arith, room, many, long)) is.2),
      omega (arith, is.3, count, room, many, long, c.len.ensures, c.append-done.ensures.capacity),
    )
