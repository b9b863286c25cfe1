use Rattle.std.proofs.Common.{arith, ap, sym, ◌∙◌}
use Rattle.af_tally.specs.Known.{Known}
use Rattle.af_tally.proofs.StepLemmas.{compares, gives, joins}
use Rattle.af_tally.proofs.keeper.Keeper.show.Goals as goal

pub split_seat-requires : goal.split_seat-requires
split_seat-requires g c = (c.in-Some.ensures.0 ∙ ap (λ (k : Known g.row.E.Denot). k.keeper) (sym c.self.view_is), omega (arith, c.self.invariant.0), gives _ _)

pub join_seat-requires : goal.join_seat-requires
join_seat-requires g c = (
  c.split_seat.ensures.0 ∙ (c.in-Some.ensures.0 ∙ ap (λ (k : Known g.row.E.Denot). k.keeper) (sym c.self.view_is)),
  ap (λ (k : Known g.row.E.Denot). k.keeper) (c.told.view_is ∙ c.replace.ensures.value)
      ∙ (c.requires ∙ ap (λ (k : Known g.row.E.Denot). k.keeper) (sym c.self.view_is)),
  c.told.invariant.0,
  omega (arith, c.self.invariant.0),
  joins _ _ _ _,
)

pub load-requires : goal.load-requires
load-requires g c = (
  c.join_seat.ensures.0 ∙ (c.split_seat.ensures.0 ∙ (c.in-Some.ensures.0 ∙ ap (λ (k : Known g.row.E.Denot). k.keeper) (sym c.self.view_is))),
  omega (arith, c.self.invariant.0),
  compares _ _ _,
)
