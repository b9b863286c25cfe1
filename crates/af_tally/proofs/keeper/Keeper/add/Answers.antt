use Rattle.std.proofs.Common.{ℕ, arith, ap, length}
use Rattle.atomic_table.specs.Table.{Me}
use Rattle.af_tally.specs.declared.view.View.{View}
use Rattle.af_tally.specs.Known.{Known}
use Rattle.af_tally.proofs.StepLemmas.{adds}
use Rattle.af_tally.proofs.keeper.Keeper.add.Goals as goal

pub fetch_add-requires : goal.fetch_add-requires
fetch_add-requires g c = (
  c.self.invariant.1,
  omega (arith, c.self.invariant.0),
  adds _ _ _ _ c.args.entry.now
      (ap (λ (m : Me ℕ (View g.row.E.Denot)). m.0.keeps) c.self.invariant.2)
      c.requires.entry
      (omega (arith, c.requires.room, ap (λ (k : Known g.row.E.Denot). length k.entries) c.self.view_is)),
)
