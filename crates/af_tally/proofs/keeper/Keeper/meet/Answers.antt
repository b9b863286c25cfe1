use Rattle.std.proofs.Common.{ℕ, arith, ap, sym, ◌∙◌}
use Rattle.atomic_table.specs.Table.{Me}
use Rattle.af_tally.specs.declared.view.View.{View}
use Rattle.af_tally.specs.Known.{Known}
use Rattle.af_tally.proofs.StepLemmas.{joins, compares}
use Rattle.af_tally.proofs.keeper.Keeper.meet.Goals as goal

pub join_seat-requires : goal.join_seat-requires
join_seat-requires g c = (
  c.self.invariant.1,
  ap (λ (k : Known g.row.E.Denot). k.keeper) (c.old.view_is ∙ c.replace-old.ensures.value)
      ∙ (c.requires ∙ ap (λ (k : Known g.row.E.Denot). k.keeper) (sym (c.self.view_is ∙ c.give.ensures.same))),
  c.old.invariant.0,
  omega (arith, c.self.invariant.0),
  joins _ _ _ _,
)

pub load-requires : goal.load-requires
load-requires g c = (c.join_seat.ensures.0 ∙ c.self.invariant.1, omega (arith, c.self.invariant.0), compares _ _ _)
