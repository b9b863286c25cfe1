use Rattle.std.proofs.Common.{◌∙◌, sym, ap, ◌+◌, ◌-◌, arith, subst, List, ℕ, ◌++◌, ◌∷◌, []}
use Rattle.af_runs.specs.Index.{HasRoomFor, IsIndex}
use Rattle.af_runs.specs.Runs.{AreRuns}
use Rattle.af_runs.specs.declared.run.Run.{Run}
use Rattle.af_runs.proofs.OkLemmas.{push_ok}
use Rattle.af_runs.proofs.RunLemmas.{AreRuns-push}
use Rattle.af_runs.proofs.runs.Runs.push.Goals as goal

pub invariant_of-self : goal.invariant_of-self
invariant_of-self c =
    let is = c.self.invariant in
    let free = rw (← c.self.view_is) at c.requires.free in
    let room = rw (← c.self.view_is) at c.requires.room in
    let ok = c.push-pushed.ensures.succeeds (omega (arith, is.3, room)) in
    let pushed = push_ok _ _ _ _ c.push-pushed.ensures.items ok in
    let long = push_ok _ _ _ _ c.push-pushed.ensures.len ok in (
      subst (λ (rows : List Run). AreRuns rows (c.self.inside.last + 1 + 1)) (ap (λ (run : Run). c.self.inside.rows.items ++ run ∷ []) (sym c.queued-run.ensures) ∙ sym pushed) (AreRuns-push c.self.inside.rows.items (c.self.inside.last + 1) c.args.new (omega arith) free is.0),
      subst (λ (rows : List Run). IsIndex rows c.push.new.self) (sym pushed) (c.push.ensures.runs c.self.inside.rows.items is.1),
      c.push.ensures.room (c.self.inside.spare - 1) (subst (λ (n : ℕ). HasRoomFor n c.self.inside.index) (omega (arith, room)) is.2),
      omega (arith, is.3, long, room, c.push-pushed.ensures.capacity),
    )
